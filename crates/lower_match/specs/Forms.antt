-- The alternatives that are made of settings, as lists of matches.
use Rattle.std.specs.Prelude.{ℕ, List, [], ◌∷◌, ◌++◌, map, false, Option, None, Some, if◌then◌else◌, slice_get}
use Rattle.std.specs.List.{flat_map}
use Rattle.fw_addr.specs.Subnets.{Subnet, family}
use Rattle.fw_addr.specs.declared.icmp.IcmpNumbers.{IcmpNumbers}
use Rattle.fw_addr.specs.declared.packet.Family.{Family}
use Rattle.fw_addr.specs.declared.packet.Family.TheVariants.{V4, V6}
use Rattle.fw_model.specs.declared.port.Port.{Port}
use Rattle.fw_model.specs.declared.service.Service.{Service}
use Rattle.fw_hits.specs.Services.{goes_anywhere}
use Rattle.nf_eval.specs.Tests.{is_same_family}
use Rattle.nf_rules.specs.declared.rule.Match.{Match}
use Rattle.nf_rules.specs.declared.test.Test.{Test}
use Rattle.nf_rules.specs.declared.test.Test.TheVariants as test

-- a test that must hold
abbrev pub is : Test → Match
is asked = record { not = false; test = asked }

-- the one alternative of one match
abbrev pub alone : Test → List (List Match)
alone asked = (is asked ∷ []) ∷ []

abbrev pub port_test : Port → Test
port_test port = test.Dport port.proto port.range

abbrev pub source_port_test : Port → Test
source_port_test port = test.Sport port.proto port.range

-- the number of an ICMP type in a family, where there is one
abbrev pub typed : Family → Option ℕ → List (List Match)
typed of None = []
typed of (Some number) = alone (test.Icmp of number)

abbrev pub icmp_alternatives : Option IcmpNumbers → List (List Match)
icmp_alternatives None = []
icmp_alternatives (Some numbers) = typed V4 numbers.v4 ++ typed V6 numbers.v6

-- The destination of a service in a family. A net of the other family holds no packet of this one.
abbrev pub destination : Family → Option Subnet → List (Option Subnet)
destination of None = []
destination of (Some net) = if is_same_family (family net.address) of then Some net ∷ [] else []

-- Where the packets of a service go: each of its destinations, or anywhere (None) where it has no destination.
abbrev pub ends : Service → List (Option Subnet)
ends service = if goes_anywhere service then None ∷ [] else destination V4 service.v4 ++ destination V6 service.v6

-- a test, and the destination
abbrev pub at_end : Test → Option Subnet → List Match
at_end asked None = is asked ∷ []
at_end asked (Some net) = is asked ∷ is (test.Dst net) ∷ []

-- an alternative for each place where the packets go
abbrev pub at_ends : List (Option Subnet) → Test → List (List Match)
at_ends places asked = map (at_end asked) places

-- the alternatives of a list of entries of one kind
abbrev pub each_at : {A : Type 0} → List (Option Subnet) → (A → Test) → List A → List (List Match)
each_at places kind entries = flat_map (λ entry. at_ends places (kind entry)) entries

-- the alternatives of one service, without those that it includes
abbrev pub member_alternatives : Service → List (List Match)
member_alternatives service =
    each_at (ends service) port_test service.ports
    ++ each_at (ends service) test.Proto service.protocols
    ++ each_at (ends service) source_port_test service.source_ports

-- the alternatives of the service at a place
abbrev pub alternatives_at : Option Service → List (List Match)
alternatives_at None = []
alternatives_at (Some service) = member_alternatives service

abbrev pub place_alternatives : List Service → ℕ → List (List Match)
place_alternatives services place = alternatives_at (slice_get services place)
