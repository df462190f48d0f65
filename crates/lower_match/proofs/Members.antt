-- The alternatives of one service hold of the packets that it is about by itself.
use Rattle.std.proofs.Common.{◌≡◌, ◌∙◌, ℕ, Bool, true, false, ◌&&◌, ◌||◌, List, [], ◌∷◌, ◌++◌, Option, None, Some, if◌then◌else◌, slice_get, refl, sym, ap, append-nil, length, ◌≤◌}
use Rattle.std.proofs.lemmas.List.Folds.{list_any-append}
use Rattle.std.proofs.lemmas.Option.{slice_get_past}
use Rattle.std.specs.List.{flat_map, list_all, list_any}
use Rattle.fw_addr.specs.Subnets.{Subnet, in_net}
use Rattle.fw_addr.specs.declared.addr.Addr.{Addr}
use Rattle.fw_addr.specs.declared.addr.Addr.TheVariants.{V4, V6}
use Rattle.fw_addr.specs.declared.packet.Family.TheVariants as families
use Rattle.fw_model.specs.Packets.{is_v4}
use Rattle.fw_model.specs.declared.packet.Packet.{Packet}
use Rattle.fw_model.specs.declared.service.Service.{Service}
use Rattle.fw_hits.specs.Members.{hits_among, is_hit}
use Rattle.fw_hits.specs.Services.{allows_destination, goes_anywhere, holds, member_hits}
use Rattle.lower_match.proofs.Tests.{and_true, any_flat_map, any_map, any_same, any_under, any_with, distributed, or_false}
use Rattle.lower_match.specs.Forms.{alternatives_at, at_end, at_ends, destination, each_at, ends, member_alternatives, place_alternatives, port_test, source_port_test}
use Rattle.lower_match.specs.Lowers.{one_holds}
use Rattle.nf_chains.specs.Tests.{match_at, test_at}
use Rattle.nf_rules.specs.declared.rule.Match.{Match}
use Rattle.nf_rules.specs.declared.set.NfSet.{NfSet}
use Rattle.nf_rules.specs.declared.test.Test.{Test}
use Rattle.nf_rules.specs.declared.test.Test.TheVariants as test

-- packets may go there
abbrev allows : Addr → Option Subnet → Bool
allows address None = true
allows address (Some net) = in_net net address

end_holds : (leaving : Option (List ℕ)) (sets : List NfSet) (packet : Packet) (asked : Test) (end : Option Subnet) → list_all (match_at leaving sets packet) (at_end asked end) ≡ (test_at leaving sets packet asked && allows packet.dst end)
end_holds leaving sets packet asked None = refl
end_holds leaving sets packet asked (Some net) = ap (λ (inside : Bool). test_at leaving sets packet asked && inside) (and_true (in_net net packet.dst))

ends_hold : (leaving : Option (List ℕ)) (sets : List NfSet) (packet : Packet) (asked : Test) (places : List (Option Subnet)) → one_holds leaving sets packet (at_ends places asked) ≡ (test_at leaving sets packet asked && list_any (allows packet.dst) places)
ends_hold leaving sets packet asked places =
    any_map (list_all (match_at leaving sets packet)) (at_end asked) places
    ∙ any_same (λ (end : Option Subnet). list_all (match_at leaving sets packet) (at_end asked end)) (λ (end : Option Subnet). test_at leaving sets packet asked && allows packet.dst end) (end_holds leaving sets packet asked) places
    ∙ any_under (test_at leaving sets packet asked) (allows packet.dst) places

-- the entries of one kind
each_holds : {A : Type 0} (leaving : Option (List ℕ)) (sets : List NfSet) (packet : Packet) (places : List (Option Subnet)) (kind : A → Test) (entries : List A)
    → one_holds leaving sets packet (each_at places kind entries) ≡ (list_any (λ entry. test_at leaving sets packet (kind entry)) entries && list_any (allows packet.dst) places)
each_holds {A} leaving sets packet places kind entries =
    any_flat_map (list_all (match_at leaving sets packet)) (λ (entry : A). at_ends places (kind entry)) entries
    ∙ any_same (λ (entry : A). one_holds leaving sets packet (at_ends places (kind entry))) (λ (entry : A). test_at leaving sets packet (kind entry) && list_any (allows packet.dst) places) (λ (entry : A). ends_hold leaving sets packet (kind entry) places) entries
    ∙ any_with (list_any (allows packet.dst) places) (λ (entry : A). test_at leaving sets packet (kind entry)) entries

-- a destination of the address's family, and one of the other
own_v4 : (first : Addr) (prefix number : ℕ) → list_any (allows (V4 number)) (destination families.V4 (Some (record { address = first; prefix = prefix }))) ≡ in_net (record { address = first; prefix = prefix }) (V4 number)
own_v4 (V4 m) prefix number = or_false (in_net (record { address = V4 m; prefix = prefix }) (V4 number))
own_v4 (V6 m) prefix number = refl

own_v6 : (first : Addr) (prefix number : ℕ) → list_any (allows (V6 number)) (destination families.V6 (Some (record { address = first; prefix = prefix }))) ≡ in_net (record { address = first; prefix = prefix }) (V6 number)
own_v6 (V4 m) prefix number = refl
own_v6 (V6 m) prefix number = or_false (in_net (record { address = V6 m; prefix = prefix }) (V6 number))

other_v4 : (first : Addr) (prefix number : ℕ) → list_any (allows (V4 number)) (destination families.V6 (Some (record { address = first; prefix = prefix }))) ≡ false
other_v4 (V4 m) prefix number = refl
other_v4 (V6 m) prefix number = refl

other_v6 : (first : Addr) (prefix number : ℕ) → list_any (allows (V6 number)) (destination families.V4 (Some (record { address = first; prefix = prefix }))) ≡ false
other_v6 (V4 m) prefix number = refl
other_v6 (V6 m) prefix number = refl

at_own_v4 : (net : Option Subnet) (number : ℕ) → list_any (allows (V4 number)) (destination families.V4 net) ≡ holds net (V4 number)
at_own_v4 None number = refl
at_own_v4 (Some net) number = own_v4 net.address net.prefix number

at_own_v6 : (net : Option Subnet) (number : ℕ) → list_any (allows (V6 number)) (destination families.V6 net) ≡ holds net (V6 number)
at_own_v6 None number = refl
at_own_v6 (Some net) number = own_v6 net.address net.prefix number

at_other_v4 : (net : Option Subnet) (number : ℕ) → list_any (allows (V4 number)) (destination families.V6 net) ≡ false
at_other_v4 None number = refl
at_other_v4 (Some net) number = other_v4 net.address net.prefix number

at_other_v6 : (net : Option Subnet) (number : ℕ) → list_any (allows (V6 number)) (destination families.V4 net) ≡ false
at_other_v6 None number = refl
at_other_v6 (Some net) number = other_v6 net.address net.prefix number

-- of the two destinations that of the address's family counts
of_family : (v4 v6 : Option Subnet) (address : Addr) → list_any (allows address) (destination families.V4 v4 ++ destination families.V6 v6) ≡ holds (if is_v4 address then v4 else v6) address
of_family v4 v6 (V4 number) =
    list_any-append (allows (V4 number)) (destination families.V4 v4) (destination families.V6 v6)
    ∙ ap (λ (own : Bool). own || list_any (allows (V4 number)) (destination families.V6 v6)) (at_own_v4 v4 number)
    ∙ ap (λ (other : Bool). holds v4 (V4 number) || other) (at_other_v4 v6 number)
    ∙ or_false (holds v4 (V4 number))
of_family v4 v6 (V6 number) =
    list_any-append (allows (V6 number)) (destination families.V4 v4) (destination families.V6 v6)
    ∙ ap (λ (other : Bool). other || list_any (allows (V6 number)) (destination families.V6 v6)) (at_other_v6 v4 number)
    ∙ at_own_v6 v6 number

or_anywhere : (anywhere : Bool) (v4 v6 : Option Subnet) (address : Addr)
    → list_any (allows address) (if anywhere then None ∷ [] else destination families.V4 v4 ++ destination families.V6 v6) ≡ (anywhere || holds (if is_v4 address then v4 else v6) address)
or_anywhere true v4 v6 address = refl
or_anywhere false v4 v6 address = of_family v4 v6 address

ends_allow : (service : Service) (address : Addr) → list_any (allows address) (ends service) ≡ allows_destination service address
ends_allow service address = or_anywhere (goes_anywhere service) service.v4 service.v6 address

-- three lists under one condition
three : (ports protocols source_ports here there : Bool) → here ≡ there → (((ports && here) || (protocols && here)) || (source_ports && here)) ≡ (((ports || protocols) || source_ports) && there)
three ports protocols source_ports here there same =
    ap (λ (first : Bool). first || (source_ports && here)) (distributed ports protocols here)
    ∙ distributed (ports || protocols) source_ports here
    ∙ ap (λ (condition : Bool). ((ports || protocols) || source_ports) && condition) same

member_holds : (leaving : Option (List ℕ)) (sets : List NfSet) (packet : Packet) (service : Service) → one_holds leaving sets packet (member_alternatives service) ≡ member_hits service packet
member_holds leaving sets packet service =
    let ports = each_at (ends service) port_test service.ports in
    let protocols = each_at (ends service) test.Proto service.protocols in
    let source_ports = each_at (ends service) source_port_test service.source_ports in
    list_any-append (list_all (match_at leaving sets packet)) (ports ++ protocols) source_ports
    ∙ ap (λ (first : Bool). first || one_holds leaving sets packet source_ports) (list_any-append (list_all (match_at leaving sets packet)) ports protocols)
    ∙ ap (λ (first : Bool). (first || one_holds leaving sets packet protocols) || one_holds leaving sets packet source_ports) (each_holds leaving sets packet (ends service) port_test service.ports)
    ∙ ap (λ (second : Bool). ((list_any (λ port. test_at leaving sets packet (port_test port)) service.ports && list_any (allows packet.dst) (ends service)) || second) || one_holds leaving sets packet source_ports) (each_holds leaving sets packet (ends service) test.Proto service.protocols)
    ∙ ap (λ (third : Bool). ((list_any (λ port. test_at leaving sets packet (port_test port)) service.ports && list_any (allows packet.dst) (ends service)) || (list_any (λ protocol. test_at leaving sets packet (test.Proto protocol)) service.protocols && list_any (allows packet.dst) (ends service))) || third) (each_holds leaving sets packet (ends service) source_port_test service.source_ports)
    ∙ three (list_any (λ port. test_at leaving sets packet (port_test port)) service.ports) (list_any (λ protocol. test_at leaving sets packet (test.Proto protocol)) service.protocols) (list_any (λ port. test_at leaving sets packet (source_port_test port)) service.source_ports) (list_any (allows packet.dst) (ends service)) (allows_destination service packet.dst) (ends_allow service packet.dst)

at_place : (leaving : Option (List ℕ)) (sets : List NfSet) (packet : Packet) (found : Option Service) → one_holds leaving sets packet (alternatives_at found) ≡ is_hit packet found
at_place leaving sets packet None = refl
at_place leaving sets packet (Some service) = member_holds leaving sets packet service

pub places_hold : (leaving : Option (List ℕ)) (sets : List NfSet) (packet : Packet) (services : List Service) (places : List ℕ) → one_holds leaving sets packet (flat_map (place_alternatives services) places) ≡ hits_among services places packet
places_hold leaving sets packet services places =
    any_flat_map (list_all (match_at leaving sets packet)) (place_alternatives services) places
    ∙ any_same (λ (place : ℕ). one_holds leaving sets packet (place_alternatives services place)) (λ (place : ℕ). is_hit packet (slice_get services place)) (λ (place : ℕ). at_place leaving sets packet (slice_get services place)) places

pub nothing_past : (services : List Service) (place : ℕ) (old : List (List Match)) → length services ≤ place → old ≡ old ++ place_alternatives services place
nothing_past services place old past =
    sym (ap (λ (found : Option Service). old ++ alternatives_at found) (slice_get_past services place past) ∙ append-nil old)
