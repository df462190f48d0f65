-- When the tests of rules hold of a packet (nft(8), "EXPRESSIONS").
use Rattle.std.specs.Prelude.{ℕ, List, Bool, true, false, not, ◌==◌, ◌&&◌, if◌then◌else◌, Option, None, Some}
use Rattle.fw_addr.specs.Interfaces.{matches}
use Rattle.fw_addr.specs.Ports.{in_range}
use Rattle.fw_addr.specs.Protocols.{icmp_protocol, icmpv6_protocol, proto_number}
use Rattle.fw_addr.specs.Subnets.{family, in_net}
use Rattle.fw_addr.specs.declared.packet.CtState.{CtState}
use Rattle.fw_addr.specs.declared.packet.CtState.TheVariants as state
use Rattle.fw_addr.specs.declared.packet.Family.{Family}
use Rattle.fw_addr.specs.declared.packet.Family.TheVariants as families
use Rattle.fw_addr.specs.declared.packet.PktType.{PktType}
use Rattle.fw_addr.specs.declared.packet.PktType.TheVariants as kind
use Rattle.fw_limit.specs.Within.{is_within}
use Rattle.fw_model.specs.declared.packet.Origin.{Origin}
use Rattle.fw_model.specs.declared.packet.Origin.TheVariants.{Host, Link}
use Rattle.fw_model.specs.declared.packet.Packet.{Packet}
use Rattle.nf_eval.specs.Sets.{holds_address, holds_mac, holds_port}
use Rattle.nf_rules.specs.declared.rule.Match.{Match}
use Rattle.nf_rules.specs.declared.set.NfSet.{NfSet}
use Rattle.nf_rules.specs.declared.test.Test.{Test}
use Rattle.nf_rules.specs.declared.test.Test.TheVariants as test

-- An interface entry stands for the interface by which a packet came (META EXPRESSIONS, iifname).
-- A packet of the host itself came by none.
abbrev pub came_in_by : List ℕ → Origin → Bool
came_in_by entry Host = false
came_in_by entry (Link name) = matches entry name

abbrev pub is_same_family : Family → Family → Bool
is_same_family families.V4 families.V4 = true
is_same_family families.V6 families.V6 = true
is_same_family one other = false

abbrev pub is_same_state : CtState → CtState → Bool
is_same_state state.New state.New = true
is_same_state state.Established state.Established = true
is_same_state state.Related state.Related = true
is_same_state state.Invalid state.Invalid = true
is_same_state one other = false

abbrev pub is_same_type : PktType → PktType → Bool
is_same_type kind.Unicast kind.Unicast = true
is_same_type kind.Broadcast kind.Broadcast = true
is_same_type kind.Multicast kind.Multicast = true
is_same_type one other = false

-- The sender's hardware address is this one. A packet may have none.
abbrev pub is_from : ℕ → Option ℕ → Bool
is_from address None = false
is_from address (Some mac) = mac == address

abbrev pub is_from_set : List NfSet → List ℕ → Option ℕ → Bool
is_from_set sets name None = false
is_from_set sets name (Some mac) = holds_mac sets name mac

-- the number of the family's ICMP (RFC 792, RFC 4443)
abbrev pub icmp_number : Family → ℕ
icmp_number families.V4 = icmp_protocol
icmp_number families.V6 = icmpv6_protocol

-- What a test asks of a packet, with these sets.
abbrev pub test_holds : List NfSet → Packet → Test → Bool
-- META EXPRESSIONS: nfproto, l4proto, iifname, pkttype
test_holds sets packet (test.Family of) = is_same_family (family packet.src) of
test_holds sets packet (test.Proto protocol) = packet.proto == protocol
test_holds sets packet (test.In entry) = came_in_by entry packet.origin
test_holds sets packet (test.Pkt kind) = is_same_type packet.pkt kind
-- oifname: at input no packet leaves by an interface
test_holds sets packet (test.Out entry) = false
-- IPV4 HEADER EXPRESSION, IPV6 HEADER EXPRESSION: saddr, daddr
test_holds sets packet (test.Src net) = in_net net packet.src
test_holds sets packet (test.Dst net) = in_net net packet.dst
test_holds sets packet (test.SrcSet name) = holds_address sets name packet.src
test_holds sets packet (test.DstSet name) = holds_address sets name packet.dst
-- ETHERNET HEADER EXPRESSION: saddr
test_holds sets packet (test.SrcMac address) = is_from address packet.mac
test_holds sets packet (test.SrcMacSet name) = is_from_set sets name packet.mac
-- TCP HEADER EXPRESSION and its kin: sport, dport
test_holds sets packet (test.Sport proto range) = packet.proto == proto_number proto && in_range range packet.sport
test_holds sets packet (test.Dport proto range) = packet.proto == proto_number proto && in_range range packet.dport
test_holds sets packet (test.DportSet proto name) = packet.proto == proto_number proto && holds_port sets name packet.dport
-- ICMP HEADER EXPRESSION, ICMPV6 HEADER EXPRESSION: type
test_holds sets packet (test.Icmp of number) = packet.proto == icmp_number of && packet.icmp_type == number
-- CONNTRACK EXPRESSIONS: state, status
test_holds sets packet (test.State of) = is_same_state packet.state of
test_holds sets packet test.Dnat = packet.dnat
-- LIMIT STATEMENT: the packet is within the limit
test_holds sets packet (test.Limit limit) = is_within limit packet.limits

-- `not` turns the whole test round.
abbrev pub match_holds : List NfSet → Packet → Match → Bool
match_holds sets packet tested =
    if tested.not then not (test_holds sets packet tested.test) else test_holds sets packet tested.test
