-- The tests of values say whether they are one.
use Rattle.std.proofs.Common.{◌≡◌, ℕ, nat_eq, ◌==◌, ◌&&◌, Bool, true, false, List, refl, ap, arith, rules}
use Rattle.std.specs.Bool.{Decides}
use Rattle.std.specs.Str.{bytes_eq}
use Rattle.std.proofs.lemmas.Bool.Decides.{Decides-and, Decides-eqb, Decides-like}
use Rattle.std.proofs.lemmas.Slice.Eq.{bytes_eq-Decides}
use Rattle.fw_addr.specs.Ports.{Range}
use Rattle.fw_addr.specs.Protocols.{proto_number}
use Rattle.fw_addr.specs.Subnets.{Subnet}
use Rattle.fw_addr.specs.declared.addr.Addr.{Addr}
use Rattle.fw_addr.specs.declared.addr.Addr.TheVariants.{V4, V6}
use Rattle.fw_addr.specs.declared.proto.PortProto.{PortProto}
use Rattle.fw_addr.specs.declared.proto.PortProto.TheVariants.{Tcp, Udp, Sctp, Dccp}
use Rattle.fw_model.specs.declared.binding.Binding.{Binding}
use Rattle.fw_model.specs.declared.binding.Binding.TheVariants.{Net, Mac, Set}
use Rattle.fw_model.specs.declared.ipset.Item.{Item}
use Rattle.fw_model.specs.declared.ipset.Item.TheVariants as item
use Rattle.fw_model.specs.declared.port.Port.{Port}
use Rattle.fw_answer.specs.Equal.{same_address, same_item, same_net, same_port, same_source}
use Rattle.fw_answer.proofs.Items.{IsEquality}

pub texts : IsEquality bytes_eq
texts = record { decides = bytes_eq-Decides }

pub numbers : IsEquality nat_eq
numbers = record { decides = Decides-eqb }

never : {P : Type 0} → ¬ P → Decides false P
never {P} differs = (λ (is : false ≡ true). cc, λ (holds : P). absurd (differs holds))

protocol_from_number : (one other : PortProto) → proto_number one ≡ proto_number other → one ≡ other
protocol_from_number Tcp Tcp same = refl
protocol_from_number Tcp Udp same = absurd (omega arith)
protocol_from_number Tcp Sctp same = absurd (omega arith)
protocol_from_number Tcp Dccp same = absurd (omega arith)
protocol_from_number Udp Tcp same = absurd (omega arith)
protocol_from_number Udp Udp same = refl
protocol_from_number Udp Sctp same = absurd (omega arith)
protocol_from_number Udp Dccp same = absurd (omega arith)
protocol_from_number Sctp Tcp same = absurd (omega arith)
protocol_from_number Sctp Udp same = absurd (omega arith)
protocol_from_number Sctp Sctp same = refl
protocol_from_number Sctp Dccp same = absurd (omega arith)
protocol_from_number Dccp Tcp same = absurd (omega arith)
protocol_from_number Dccp Udp same = absurd (omega arith)
protocol_from_number Dccp Sctp same = absurd (omega arith)
protocol_from_number Dccp Dccp same = refl

port_from_parts : (one other : Port) → one.range.first ≡ other.range.first → one.range.last ≡ other.range.last → one.proto ≡ other.proto → one ≡ other
port_from_parts one other first last proto = λ i. record { range = record { first = first i; last = last i }; proto = proto i }

ports_decided : (one other : Port) → Decides (same_port one other) (one ≡ other)
ports_decided one other =
    Decides-like (same_port one other)
    (λ (parts : ((one.range.first ≡ other.range.first) × (one.range.last ≡ other.range.last)) × (proto_number one.proto ≡ proto_number other.proto)). port_from_parts one other parts.0.0 parts.0.1 (protocol_from_number one.proto other.proto parts.1))
    (λ (same : one ≡ other). ((ap (λ (port : Port). port.range.first) same, ap (λ (port : Port). port.range.last) same), ap (λ (port : Port). proto_number port.proto) same))
    (Decides-and (one.range.first == other.range.first && one.range.last == other.range.last) (proto_number one.proto == proto_number other.proto)
    (Decides-and (one.range.first == other.range.first) (one.range.last == other.range.last) (Decides-eqb one.range.first other.range.first) (Decides-eqb one.range.last other.range.last))
    (Decides-eqb (proto_number one.proto) (proto_number other.proto)))

pub ports : IsEquality same_port
ports = record { decides = ports_decided }

addresses_decided : (one other : Addr) → Decides (same_address one other) (one ≡ other)
addresses_decided (V4 one) (V4 other) = Decides-like (one == other) (λ (same : one ≡ other). ap V4 same) (λ (same : V4 one ≡ V4 other). cc) (Decides-eqb one other)
addresses_decided (V4 one) (V6 other) = never (λ (same : V4 one ≡ V6 other). cc)
addresses_decided (V6 one) (V4 other) = never (λ (same : V6 one ≡ V4 other). cc)
addresses_decided (V6 one) (V6 other) = Decides-like (one == other) (λ (same : one ≡ other). ap V6 same) (λ (same : V6 one ≡ V6 other). cc) (Decides-eqb one other)

net_from_parts : (one other : Subnet) → one.address ≡ other.address → one.prefix ≡ other.prefix → one ≡ other
net_from_parts one other address prefix = λ i. record { address = address i; prefix = prefix i }

nets_decided : (one other : Subnet) → Decides (same_net one other) (one ≡ other)
nets_decided one other =
    Decides-like (same_net one other)
    (λ (parts : (one.address ≡ other.address) × (one.prefix ≡ other.prefix)). net_from_parts one other parts.0 parts.1)
    (λ (same : one ≡ other). (ap (λ (net : Subnet). net.address) same, ap (λ (net : Subnet). net.prefix) same))
    (Decides-and (same_address one.address other.address) (one.prefix == other.prefix) (addresses_decided one.address other.address) (Decides-eqb one.prefix other.prefix))

sources_decided : (one other : Binding) → Decides (same_source one other) (one ≡ other)
sources_decided (Net one) (Net other) = Decides-like (same_net one other) (λ (same : one ≡ other). ap Net same) (λ (same : Net one ≡ Net other). cc) (nets_decided one other)
sources_decided (Net one) (Mac other) = never (λ (same : Net one ≡ Mac other). cc)
sources_decided (Net one) (Set other) = never (λ (same : Net one ≡ Set other). cc)
sources_decided (Mac one) (Net other) = never (λ (same : Mac one ≡ Net other). cc)
sources_decided (Mac one) (Mac other) = Decides-like (one == other) (λ (same : one ≡ other). ap Mac same) (λ (same : Mac one ≡ Mac other). cc) (Decides-eqb one other)
sources_decided (Mac one) (Set other) = never (λ (same : Mac one ≡ Set other). cc)
sources_decided (Set one) (Net other) = never (λ (same : Set one ≡ Net other). cc)
sources_decided (Set one) (Mac other) = never (λ (same : Set one ≡ Mac other). cc)
sources_decided (Set one) (Set other) = Decides-like (bytes_eq one other) (λ (same : one ≡ other). ap Set same) (λ (same : Set one ≡ Set other). cc) (bytes_eq-Decides one other)

pub sources : IsEquality same_source
sources = record { decides = sources_decided }

items_decided : (one other : Item) → Decides (same_item one other) (one ≡ other)
items_decided (item.Net one) (item.Net other) = Decides-like (same_net one other) (λ (same : one ≡ other). ap item.Net same) (λ (same : item.Net one ≡ item.Net other). cc) (nets_decided one other)
items_decided (item.Net one) (item.Mac other) = never (λ (same : item.Net one ≡ item.Mac other). cc)
items_decided (item.Mac one) (item.Net other) = never (λ (same : item.Mac one ≡ item.Net other). cc)
items_decided (item.Mac one) (item.Mac other) = Decides-like (one == other) (λ (same : one ≡ other). ap item.Mac same) (λ (same : item.Mac one ≡ item.Mac other). cc) (Decides-eqb one other)

pub items : IsEquality same_item
items = record { decides = items_decided }
