-- Which texts of single values are read as these values.
use Rattle.std.proofs.Common.{◌≡◌, ℕ, ◌<◌, ◌^◌, Some, decimal}
use Rattle.fw_addr.specs.Canonical.{address_text}
use Rattle.fw_addr.specs.Nets.{net_text}
use Rattle.fw_addr.specs.Ports.{Range, port as port_number, port_range, ports_text}
use Rattle.fw_addr.specs.Protocols.{port_proto, port_proto_text, proto_text}
use Rattle.fw_addr.specs.Subnets.{Subnet}
use Rattle.fw_addr.specs.declared.addr.Addr.{Addr}
use Rattle.fw_addr.specs.declared.proto.PortProto.{PortProto}
use Rattle.fw_load.specs.Values as said
use Rattle.fw_model.specs.declared.binding.Binding.{Binding}
use Rattle.fw_model.specs.declared.ipset.Item.{Item}
use Rattle.fw_model.specs.declared.rich.Rich.{Rich}
use Rattle.fw_restore_law.specs.Ranges.{IsEntry}
use Rattle.fw_rich.specs.Canonical.{canon}
use Rattle.fw_rich_law.specs.Values.{HasValues, IsAddress, IsBinding, IsNet, IsRange}
use Rattle.fw_store.specs.Texts.{entry_text, source_text}
use Rattle.fw_valid.specs.Riches.{IsRich}

-- that the text of each single value is read as the value
pub record Printed : Type 0 where
  pub numbers : (n : ℕ) → n < 2 ^ 16 → port_number (decimal n) ≡ Some n
  pub ports : (range : Range) → IsRange range → port_range (ports_text range) ≡ Some range
  pub port_protocols : (protocol : PortProto) → port_proto (port_proto_text protocol) ≡ Some protocol
  pub protocols : (n : ℕ) → n < 2 ^ 8 → said.protocol (proto_text n) ≡ Some n
  pub hosts : (addr : Addr) → IsAddress addr → said.host (address_text addr) ≡ Some addr
  pub nets : (net : Subnet) → IsNet net → said.network (net_text net) ≡ Some net
  pub sources : (source : Binding) → IsBinding source → said.source (source_text source) ≡ Some source
  pub entries : (entry : Item) → IsEntry entry → said.entry (entry_text entry) ≡ Some entry
  pub rich : (rule : Rich) → HasValues rule → IsRich rule → said.rich (canon rule) ≡ Some rule
