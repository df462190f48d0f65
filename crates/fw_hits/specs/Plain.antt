-- Which packets a service and an ICMP type are about.
use Rattle.std.specs.Prelude.{ℕ, ◌==◌, List, Bool, false, not, ◌&&◌, ◌||◌, Option, None, Some}
use Rattle.fw_addr.specs.Icmp.{icmp}
use Rattle.fw_addr.specs.Protocols.{icmp_protocol, icmpv6_protocol}
use Rattle.fw_addr.specs.declared.icmp.IcmpNumbers.{IcmpNumbers}
use Rattle.fw_model.specs.Packets.{is_v4}
use Rattle.fw_model.specs.declared.config.Config.{Config}
use Rattle.fw_model.specs.declared.packet.Packet.{Packet}
use Rattle.fw_hits.specs.Services.{service_hits}

-- a packet of IPv4
abbrev pub is_ipv4 : Packet → Bool
is_ipv4 packet = is_v4 packet.src

-- ICMP in IPv4 (RFC 792), and ICMPv6 in IPv6 (RFC 4443)
abbrev pub is_icmpv4 : Packet → Bool
is_icmpv4 packet = packet.proto == icmp_protocol && is_ipv4 packet

abbrev pub is_icmpv6 : Packet → Bool
is_icmpv6 packet = packet.proto == icmpv6_protocol && not (is_ipv4 packet)

abbrev pub is_icmp : Packet → Bool
is_icmp packet = is_icmpv4 packet || is_icmpv6 packet

-- the type of an ICMP header is this number, where there is one
abbrev pub is_type : Option ℕ → Packet → Bool
is_type None packet = false
is_type (Some number) packet = packet.icmp_type == number

-- an ICMP packet has the type that these numbers give its family
abbrev pub hits_numbers : Option IcmpNumbers → Packet → Bool
hits_numbers None packet = false
hits_numbers (Some numbers) packet = (is_icmpv4 packet && is_type numbers.v4 packet) || (is_icmpv6 packet && is_type numbers.v6 packet)

-- an ICMP packet has the type of this name (firewalld.icmptype(5)); a name that isn't known has no packets
abbrev pub hits_icmp : List ℕ → Packet → Bool
hits_icmp name packet = hits_numbers (icmp name) packet

-- the service of this name, or one that it includes, is about the packet (firewalld.service(5))
abbrev pub hits_service : Config → List ℕ → Packet → Bool
hits_service config name packet = service_hits config.services name packet
