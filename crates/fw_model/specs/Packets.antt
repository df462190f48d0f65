-- Packets: where they come from, and which there are.
use Rattle.std.specs.Prelude.{◌≡◌, ℕ, ◌<◌, ◌^◌, Bool, true, false, is_none, IsTrue, List, All, IfSome}
use Rattle.std.specs.Str.{bytes_eq}
use Rattle.fw_addr.specs.Interfaces.{before_plus}
use Rattle.fw_addr.specs.Protocols.{has_ports, icmp_protocol, icmpv6_protocol}
use Rattle.fw_addr.specs.Subnets.{Subnet, family, is_subnet}
use Rattle.fw_addr.specs.declared.addr.Addr.{Addr}
use Rattle.fw_addr.specs.declared.addr.Addr.TheVariants.{V4, V6}
use Rattle.fw_addr.specs.declared.packet.Family.TheVariants as families
use Rattle.fw_model.specs.declared.packet.Origin.{Origin}
use Rattle.fw_model.specs.declared.packet.Packet.{Packet}
use Rattle.fw_model.specs.declared.packet.Origin.TheVariants.{Host, Link}

-- an address is a number of 32 bits, or of 128
abbrev pub IsAddress : Addr → Type 0
IsAddress (V4 number) = number < 2 ^ 32
IsAddress (V6 number) = number < 2 ^ 128

-- a net is an address and the length of a prefix behind which all bits are 0
pub record IsNet (net : Subnet) : Type 0 where
  pub address : IsAddress net.address
  pub cleared : IsTrue (is_subnet net)

-- The packets that there are: their numbers fit the fields of a header (RFC 791, RFC 8200, RFC 9293), they go between
-- addresses of one family, and ICMP (RFC 792) is of IPv4 alone, ICMPv6 (RFC 4443) of IPv6 alone.
pub record IsPacket (packet : Packet) : Type 0 where
  pub src : IsAddress packet.src
  pub dst : IsAddress packet.dst
  pub one_family : family packet.src ≡ family packet.dst
  pub icmp : packet.proto ≡ icmp_protocol → family packet.src ≡ families.V4
  pub icmpv6 : packet.proto ≡ icmpv6_protocol → family packet.src ≡ families.V6
  pub mac : IfSome packet.mac (λ mac. mac < 2 ^ 48)
  pub proto : packet.proto < 2 ^ 8
  pub sport : packet.sport < 2 ^ 16
  pub dport : packet.dport < 2 ^ 16
  pub icmp_type : packet.icmp_type < 2 ^ 8
  pub icmp_code : packet.icmp_code < 2 ^ 8
  pub mark : packet.mark < 2 ^ 32
  pub limits : All (λ limit. limit.count < 2 ^ 16) packet.limits
  pub routes : All (λ route. IsNet route.0) packet.routes

-- It came by an interface of this name.
abbrev pub came_by : List ℕ → Origin → Bool
came_by name Host = false
came_by name (Link link) = bytes_eq link name

-- It came by an interface whose name doesn't end in `+`, as an entry for many names does.
abbrev pub has_plain_link : Origin → Bool
has_plain_link Host = false
has_plain_link (Link link) = is_none (before_plus link)

-- An address of IPv4.
abbrev pub is_v4 : Addr → Bool
is_v4 (V4 number) = true
is_v4 (V6 number) = false

-- The packets that are asked about: they came by an interface, whose name has no `+`, go from one IPv4 address to
-- another, and have ports.
pub record IsFirstPacket (packet : Packet) : Type 0 where
  pub by_link : IsTrue (has_plain_link packet.origin)
  pub from_v4 : IsTrue (is_v4 packet.src)
  pub to_v4 : IsTrue (is_v4 packet.dst)
  pub with_ports : IsTrue (has_ports packet.proto)
