-- Which packets a rich rule is about (firewalld.richlanguage(5)): those of its family that come from its source, go to its
-- destination and are of its element. A part that a rule hasn't asks nothing.
use Rattle.std.specs.Prelude.{ℕ, ◌==◌, List, Bool, true, not, ◌&&◌, Option, None, Some, if◌then◌else◌}
use Rattle.fw_addr.specs.declared.addr.Addr.{Addr}
use Rattle.fw_addr.specs.declared.packet.Family.{Family}
use Rattle.fw_hits.specs.Plain.{hits_icmp, hits_service, is_ipv4}
use Rattle.fw_hits.specs.Services.{source_port_matches}
use Rattle.fw_hits.specs.Sources.{is_of_family, matches_source}
use Rattle.fw_model.specs.Ports.{port_matches}
use Rattle.fw_model.specs.declared.config.Config.{Config}
use Rattle.fw_model.specs.declared.ipset.IpSet.{IpSet}
use Rattle.fw_model.specs.declared.packet.Packet.{Packet}
use Rattle.fw_model.specs.declared.rich.Element.{Element}
use Rattle.fw_model.specs.declared.rich.Element.TheVariants as element
use Rattle.fw_model.specs.declared.rich.Rich.{Rich}
use Rattle.fw_model.specs.declared.rich.Side.{Side}

-- `family`
abbrev pub is_of_rule : Option Family → Packet → Bool
is_of_rule None packet = true
is_of_rule (Some family) packet = is_of_family family packet.src

-- `NOT` turns the address part round, and it alone: also where a packet has nothing to compare.
abbrev pub turned : (inverted holds : Bool) → Bool
turned inverted holds = if inverted then not holds else holds

-- `source` and `destination`: an address or a net, a hardware address, or a set. Nothing is known of the receiver's hardware
-- address.
abbrev pub is_at : List IpSet → Addr → Option ℕ → Option Side → Bool
is_at sets address mac None = true
is_at sets address mac (Some side) = turned side.not (matches_source sets address mac side.what)

-- Masquerade without a family is for IPv4 alone.
abbrev pub may_masquerade : Option Family → Packet → Bool
may_masquerade None packet = is_ipv4 packet
may_masquerade (Some family) packet = true

abbrev pub is_of_element : Config → Option Family → Packet → Option Element → Bool
is_of_element config family packet None = true
is_of_element config family packet (Some (element.Service name)) = hits_service config name packet
is_of_element config family packet (Some (element.Port port)) = port_matches port packet
is_of_element config family packet (Some (element.Protocol protocol)) = packet.proto == protocol
is_of_element config family packet (Some (element.IcmpBlock name)) = hits_icmp name packet
is_of_element config family packet (Some (element.IcmpType name)) = hits_icmp name packet
is_of_element config family packet (Some element.Masquerade) = may_masquerade family packet
is_of_element config family packet (Some (element.SourcePort port)) = source_port_matches port packet
is_of_element config family packet (Some (element.Forward forward)) = port_matches forward.port packet

abbrev pub hits_rich : Config → Rich → Packet → Bool
hits_rich config rule packet =
    (is_of_rule rule.family packet && is_at config.ipsets packet.src packet.mac rule.source && is_at config.ipsets packet.dst None rule.dest)
    && is_of_element config rule.family packet rule.element
