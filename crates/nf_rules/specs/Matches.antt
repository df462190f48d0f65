-- The printed form of matches, by the expressions of nft(8). Entries of interfaces stand in quotes with `*` for `+`, sets
-- behind `@`, and `!= ` before the value of a match that is inverted.
use Rattle.std.specs.Prelude.{ℕ, Bool, true, false, List, [], ◌∷◌, ◌++◌, Option, None, Some, codes, decimal}
use Rattle.fw_addr.specs.Hardware.{mac_text}
use Rattle.fw_addr.specs.Interfaces.{before_plus}
use Rattle.fw_addr.specs.Names.{family_text, limit_text, packet_type_text, state_text}
use Rattle.fw_addr.specs.Nets.{net_text}
use Rattle.fw_addr.specs.Ports.{ports_text}
use Rattle.fw_addr.specs.Protocols.{port_proto_text, proto_text}
use Rattle.fw_addr.specs.Subnets.{family}
use Rattle.fw_addr.specs.declared.packet.Family.{Family}
use Rattle.fw_addr.specs.declared.packet.Family.TheVariants.{V4, V6}
use Rattle.nf_rules.specs.declared.rule.Match.{Match}
use Rattle.nf_rules.specs.declared.test.Test.{Test}
use Rattle.nf_rules.specs.declared.test.Test.TheVariants as test

-- the header of an address of a family (IPV4 HEADER EXPRESSION, IPV6 HEADER EXPRESSION)
abbrev pub ip_word : Family → List ℕ
ip_word V4 = codes "ip"
ip_word V6 = codes "ip6"

-- the header of a message of a family (ICMP HEADER EXPRESSION, ICMPV6 HEADER EXPRESSION)
abbrev pub icmp_word : Family → List ℕ
icmp_word V4 = codes "icmp"
icmp_word V6 = codes "icmpv6"

-- what is before a `+`, with `*` (42) in its place, or else the whole name
abbrev pub pattern : Option (List ℕ) → List ℕ → List ℕ
pattern None name = name
pattern (Some front) name = front ++ 42 ∷ []

-- an interface in quotes (34)
abbrev pub interface_text : List ℕ → List ℕ
interface_text name = 34 ∷ pattern (before_plus name) name ++ 34 ∷ []

-- a set or a map by its name, behind `@` (64)
abbrev pub reference : List ℕ → List ℕ
reference name = 64 ∷ name

-- what a test looks at
abbrev pub selector : Test → List ℕ
selector (test.Family family) = codes "meta nfproto "
selector (test.Src net) = ip_word (family net.address) ++ codes " saddr "
selector (test.Dst net) = ip_word (family net.address) ++ codes " daddr "
selector (test.SrcSet set) = codes "saddr "
selector (test.DstSet set) = codes "daddr "
selector (test.SrcMac mac) = codes "ether saddr "
selector (test.SrcMacSet set) = codes "ether saddr "
selector (test.In interface) = codes "iifname "
selector (test.Out interface) = codes "oifname "
selector (test.Proto protocol) = codes "meta l4proto "
selector (test.Sport protocol ports) = port_proto_text protocol ++ codes " sport "
selector (test.Dport protocol ports) = port_proto_text protocol ++ codes " dport "
selector (test.DportSet protocol set) = port_proto_text protocol ++ codes " dport "
selector (test.Icmp family number) = icmp_word family ++ codes " type "
selector (test.State state) = codes "ct state "
selector test.Dnat = codes "ct status "
selector (test.Pkt kind) = codes "meta pkttype "
selector (test.Limit limit) = codes "limit rate "

-- what it is compared with
abbrev pub value : Test → List ℕ
value (test.Family family) = family_text family
value (test.Src net) = net_text net
value (test.Dst net) = net_text net
value (test.SrcSet set) = reference set
value (test.DstSet set) = reference set
value (test.SrcMac mac) = mac_text mac
value (test.SrcMacSet set) = reference set
value (test.In interface) = interface_text interface
value (test.Out interface) = interface_text interface
value (test.Proto protocol) = proto_text protocol
value (test.Sport protocol ports) = ports_text ports
value (test.Dport protocol ports) = ports_text ports
value (test.DportSet protocol set) = reference set
value (test.Icmp family number) = decimal number
value (test.State state) = state_text state
value test.Dnat = codes "dnat"
value (test.Pkt kind) = packet_type_text kind
value (test.Limit limit) = limit_text limit

-- before the value
abbrev pub operator : Bool → List ℕ
operator true = codes "!= "
operator false = []

abbrev pub match_text : Match → List ℕ
match_text tested = selector tested.test ++ operator tested.not ++ value tested.test
