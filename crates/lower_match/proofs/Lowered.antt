-- Each setting is about the packets of which its alternatives hold.
use Rattle.std.proofs.Common.{◌≡◌, ◌∙◌, ◌==◌, ℕ, Bool, true, false, not, ◌&&◌, ◌||◌, List, Option, None, Some, refl, sym, ap}
use Rattle.std.proofs.lemmas.Bool.{eqb-true}
use Rattle.std.proofs.lemmas.List.Folds.{list_any-append}
use Rattle.std.specs.List.{flat_map, list_all}
use Rattle.fw_addr.specs.Icmp.{icmp}
use Rattle.fw_addr.specs.Subnets.{family}
use Rattle.fw_addr.specs.declared.addr.Addr.{Addr}
use Rattle.fw_addr.specs.declared.addr.Addr.TheVariants as addr
use Rattle.fw_addr.specs.declared.icmp.IcmpNumbers.{IcmpNumbers}
use Rattle.fw_addr.specs.declared.packet.Family.TheVariants.{V4, V6}
use Rattle.fw_closure.specs.Includes.{AreReached}
use Rattle.fw_model.specs.Packets.{IsPacket, is_v4}
use Rattle.fw_model.specs.declared.ipset.IpSet.{IpSet}
use Rattle.fw_model.specs.declared.packet.Packet.{Packet}
use Rattle.fw_model.specs.declared.service.Service.{Service}
use Rattle.fw_model.specs.declared.setting.Setting.{Setting}
use Rattle.fw_model.specs.declared.setting.Setting.TheVariants as setting
use Rattle.fw_hits.specs.Hits.{hits}
use Rattle.fw_hits.specs.Plain.{hits_numbers, is_icmpv4, is_icmpv6, is_ipv4, is_type}
use Rattle.fw_hits.specs.Services.{service_hits}
use Rattle.lower_match.proofs.Members.{places_hold}
use Rattle.lower_match.proofs.Reached.{Tested, reached_hits}
use Rattle.lower_match.specs.Forms.{alone, icmp_alternatives, place_alternatives, typed}
use Rattle.lower_match.specs.Lowers.{Lowers, one_holds}
use Rattle.nf_chains.specs.Tests.{match_at, test_at}
use Rattle.nf_rules.specs.declared.rule.Match.{Match}
use Rattle.nf_rules.specs.declared.set.NfSet.{NfSet}
use Rattle.nf_rules.specs.declared.test.Test.{Test}
use Rattle.nf_rules.specs.declared.test.Test.TheVariants as test

pub reached_holds : (services : List Service) (name : List ℕ) (places : List ℕ) → Tested services → AreReached services name places
    → (alternatives : List (List Match)) → alternatives ≡ flat_map (place_alternatives services) places
    → (leaving : Option (List ℕ)) (sets : List NfSet) (packet : Packet) → service_hits services name packet ≡ one_holds leaving sets packet alternatives
reached_holds services name places tested are alternatives made leaving sets packet =
    sym (ap (one_holds leaving sets packet) made ∙ places_hold leaving sets packet services places ∙ reached_hits services name packet places tested are)

pub lowers_service : (services : List Service) (ipsets : List IpSet) (told : Setting) (name text : List ℕ) (alternatives : List (List Match))
    → told ≡ setting.Service name → text ≡ name
    → ((leaving : Option (List ℕ)) (sets : List NfSet) (packet : Packet) → service_hits services text packet ≡ one_holds leaving sets packet alternatives)
    → Lowers services ipsets told alternatives
lowers_service services ipsets told name text alternatives is_told same_text holds config rules leaving packet same same_sets stand is_packet =
    ap (λ (other : Setting). hits config other packet) is_told
    ∙ ap (λ (known : List Service). service_hits known name packet) same
    ∙ ap (λ (asked : List ℕ). service_hits services asked packet) (sym same_text)
    ∙ holds leaving rules.sets packet

one_only : (b : Bool) → b ≡ ((b && true) || false)
one_only true = refl
one_only false = refl

alone_holds : (leaving : Option (List ℕ)) (sets : List NfSet) (packet : Packet) (asked : Test) → test_at leaving sets packet asked ≡ one_holds leaving sets packet (alone asked)
alone_holds leaving sets packet asked = one_only (test_at leaving sets packet asked)

of_v4 : (address : Addr) → family address ≡ V4 → is_v4 address ≡ true
of_v4 (addr.V4 number) same = refl
of_v4 (addr.V6 number) same = cc

of_v6 : (address : Addr) → family address ≡ V6 → is_v4 address ≡ false
of_v6 (addr.V4 number) same = cc
of_v6 (addr.V6 number) same = refl

-- what follows from a test may be asked with it
implied : (one other : Bool) → (one ≡ true → other ≡ true) → (one && other) ≡ one
implied true other gives = gives refl
implied false other gives = refl

only_v4 : (packet : Packet) → IsPacket packet → is_icmpv4 packet ≡ (packet.proto == 1)
only_v4 packet is_packet =
    implied (packet.proto == 1) (is_ipv4 packet) (λ same. of_v4 packet.src (is_packet.icmp (eqb-true packet.proto 1 same)))

only_v6 : (packet : Packet) → IsPacket packet → is_icmpv6 packet ≡ (packet.proto == 58)
only_v6 packet is_packet =
    implied (packet.proto == 58) (not (is_ipv4 packet)) (λ same. ap not (of_v6 packet.src (is_packet.icmpv6 (eqb-true packet.proto 58 same))))

no_type : (b : Bool) → (b && false) ≡ false
no_type true = refl
no_type false = refl

typed_v4 : (leaving : Option (List ℕ)) (sets : List NfSet) (packet : Packet) (number : Option ℕ) → IsPacket packet → (is_icmpv4 packet && is_type number packet) ≡ one_holds leaving sets packet (typed V4 number)
typed_v4 leaving sets packet None is_packet = no_type (is_icmpv4 packet)
typed_v4 leaving sets packet (Some number) is_packet =
    ap (λ (first : Bool). first && packet.icmp_type == number) (only_v4 packet is_packet) ∙ alone_holds leaving sets packet (test.Icmp V4 number)

typed_v6 : (leaving : Option (List ℕ)) (sets : List NfSet) (packet : Packet) (number : Option ℕ) → IsPacket packet → (is_icmpv6 packet && is_type number packet) ≡ one_holds leaving sets packet (typed V6 number)
typed_v6 leaving sets packet None is_packet = no_type (is_icmpv6 packet)
typed_v6 leaving sets packet (Some number) is_packet =
    ap (λ (first : Bool). first && packet.icmp_type == number) (only_v6 packet is_packet) ∙ alone_holds leaving sets packet (test.Icmp V6 number)

pub numbers_hold : (leaving : Option (List ℕ)) (sets : List NfSet) (packet : Packet) (numbers : Option IcmpNumbers) → IsPacket packet → hits_numbers numbers packet ≡ one_holds leaving sets packet (icmp_alternatives numbers)
numbers_hold leaving sets packet None is_packet = refl
numbers_hold leaving sets packet (Some numbers) is_packet =
    ap (λ (first : Bool). first || (is_icmpv6 packet && is_type numbers.v6 packet)) (typed_v4 leaving sets packet numbers.v4 is_packet)
    ∙ ap (λ (second : Bool). one_holds leaving sets packet (typed V4 numbers.v4) || second) (typed_v6 leaving sets packet numbers.v6 is_packet)
    ∙ sym (list_any-append (list_all (match_at leaving sets packet)) (typed V4 numbers.v4) (typed V6 numbers.v6))

pub lowers_icmp : (services : List Service) (ipsets : List IpSet) (told : Setting) (name text : List ℕ) (alternatives : List (List Match))
    → told ≡ setting.IcmpBlock name → text ≡ name
    → alternatives ≡ icmp_alternatives (icmp text)
    → Lowers services ipsets told alternatives
lowers_icmp services ipsets told name text alternatives is_told same_text made config rules leaving packet same same_sets stand is_packet =
    ap (λ (other : Setting). hits config other packet) is_told
    ∙ ap (λ (asked : List ℕ). hits_numbers (icmp asked) packet) (sym same_text)
    ∙ numbers_hold leaving rules.sets packet (icmp text) is_packet
    ∙ ap (one_holds leaving rules.sets packet) (sym made)
