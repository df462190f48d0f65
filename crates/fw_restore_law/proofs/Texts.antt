-- The text of each single value is read as the value.
use Rattle.std.proofs.Common.{◌≡◌, ◌∙◌, ℕ, ◌<◌, ◌≤◌, ◌^◌, None, Some, Ok, IsTrue, if◌then◌else◌, decimal, refl, ap, arith}
use Rattle.std.specs.Option.{option_map, option_or}
use Rattle.std.specs.Result.{result_ok}
use Rattle.std.proofs.lemmas.Bool.{le-leb}
use Rattle.fw_addr.specs.Addresses.{address}
use Rattle.fw_addr.specs.Canonical.{address_text}
use Rattle.fw_addr.specs.Hardware.{mac, mac_text}
use Rattle.fw_addr.specs.Nets.{net, net_text}
use Rattle.fw_addr.specs.Ports.{Range, port_range, ports_text}
use Rattle.fw_addr.specs.Protocols.{port_proto, port_proto_text, proto, proto_text}
use Rattle.fw_addr.specs.Subnets.{Subnet, bits, is_subnet, width}
use Rattle.fw_addr.specs.declared.addr.Addr.{Addr}
use Rattle.fw_addr.specs.declared.proto.PortProto.{PortProto}
use Rattle.fw_load.specs.Values as said
use Rattle.fw_model.specs.declared.binding.Binding.{Binding}
use Rattle.fw_model.specs.declared.binding.Binding.TheVariants as bindings
use Rattle.fw_model.specs.declared.ipset.Item.{Item}
use Rattle.fw_model.specs.declared.ipset.Item.TheVariants as entries
use Rattle.fw_model.specs.declared.rich.Rich.{Rich}
use Rattle.fw_restore_law.proofs.Apart.{mac_is_no_net, no_word_in_mac, no_word_in_net}
use Rattle.fw_restore_law.proofs.Printed.{Printed}
use Rattle.fw_restore_law.specs.Ranges.{IsEntry}
use Rattle.fw_rich.specs.Canonical.{canon}
use Rattle.fw_rich.specs.Rich.{rich_text}
use Rattle.fw_rich_law.specs.Values.{HasValues, IsBinding, IsNet}
use Rattle.fw_store.specs.Texts.{entry_text, source_text}
use Rattle.fw_text.specs.Number.{number}
use Rattle.fw_valid.specs.Riches.{IsRich}

-- the laws of the crates below
pub record Laws : Type 0 where
  pub decimals : (n : ℕ) → n < 2 ^ 64 → number (decimal n) ≡ Some n
  pub ports : (range : Range) → range.first ≤ range.last → range.last < 2 ^ 16 → port_range (ports_text range) ≡ Some range
  pub protocols : (n : ℕ) → n < 2 ^ 8 → proto (proto_text n) ≡ Some n
  pub port_protocols : (protocol : PortProto) → port_proto (port_proto_text protocol) ≡ Some protocol
  pub macs : (n : ℕ) → n < 2 ^ 48 → mac (mac_text n) ≡ Some n
  pub addresses : (addr : Addr) → bits addr < 2 ^ width addr → address (address_text addr) ≡ Some addr
  pub nets : (whole : Subnet) → IsTrue (is_subnet whole) → bits whole.address < 2 ^ width whole.address → net (net_text whole) ≡ Some whole
  pub rules : (rule : Rich) → HasValues rule → IsRich rule → rich_text (canon rule) ≡ Ok rule

network_read : Laws → (net : Subnet) → IsNet net → said.network (net_text net) ≡ Some net
unfolding said.network
network_read laws net is = laws.nets net is.0 is.1

mac_no_network : (n : ℕ) → n < 2 ^ 48 → said.network (mac_text n) ≡ None
unfolding said.network
mac_no_network n small = mac_is_no_net n small

hardware_read : Laws → (n : ℕ) → n < 2 ^ 48 → said.hardware (mac_text n) ≡ Some n
unfolding said.hardware
hardware_read laws n small = laws.macs n small

host_read : Laws → (addr : Addr) → bits addr < 2 ^ width addr → said.host (address_text addr) ≡ Some addr
unfolding said.host
host_read laws addr is = laws.addresses addr is

protocol_read : Laws → (n : ℕ) → n < 2 ^ 8 → said.protocol (proto_text n) ≡ Some n
unfolding said.protocol
protocol_read laws n small = laws.protocols n small

module _ {T : Type 0} (of_net : Subnet → T) (of_mac : ℕ → T) where
  as_net : Laws → (net : Subnet) → IsNet net → said.net_or_mac of_net of_mac (net_text net) ≡ Some (of_net net)
  as_net laws net is = ap (λ found. option_or (option_map of_net found) (option_map of_mac (said.hardware (net_text net)))) (network_read laws net is)

  as_mac : Laws → (n : ℕ) → n < 2 ^ 48 → said.net_or_mac of_net of_mac (mac_text n) ≡ Some (of_mac n)
  as_mac laws n small =
      ap (λ found. option_or (option_map of_net found) (option_map of_mac (said.hardware (mac_text n)))) (mac_no_network n small)
      ∙ ap (option_map of_mac) (hardware_read laws n small)

source_read : Laws → (source : Binding) → IsBinding source → said.source (source_text source) ≡ Some source
unfolding said.source
source_read laws (bindings.Net net) is = ap (said.source_from (net_text net)) (no_word_in_net net is) ∙ as_net bindings.Net bindings.Mac laws net is
source_read laws (bindings.Mac address) is = ap (said.source_from (mac_text address)) (no_word_in_mac address is) ∙ as_mac bindings.Net bindings.Mac laws address is
source_read laws (bindings.Set name) is = ap (λ named. if named then Some (bindings.Set name) else None) is

entry_read : Laws → (entry : Item) → IsEntry entry → said.entry (entry_text entry) ≡ Some entry
unfolding said.entry
entry_read laws (entries.Net net) is = as_net entries.Net entries.Mac laws net is
entry_read laws (entries.Mac address) is = as_mac entries.Net entries.Mac laws address is

pub printed : Laws → Printed
printed laws = record {
  numbers = λ n small. rw (laws.decimals n (omega (arith, small)), le-leb n 65535 (omega (arith, small))) refl;
  ports = λ range is. laws.ports range is.0 is.1;
  port_protocols = laws.port_protocols;
  protocols = protocol_read laws;
  hosts = host_read laws;
  nets = network_read laws;
  sources = source_read laws;
  entries = entry_read laws;
  rich = λ rule values is. ap result_ok (laws.rules rule values is);
}
