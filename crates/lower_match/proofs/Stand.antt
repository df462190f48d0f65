-- The sets that matches look up are those of ipsets.
use Rattle.std.proofs.Common.{◌≡◌, ◌∙◌, ℕ, Bool, true, false, ◌&&◌, List, [], ◌∷◌, ◌++◌, map, Option, None, Some, refl, sym, ap, subst, inl, inr}
use Rattle.std.proofs.lemmas.List.Folds.{list_all-append}
use Rattle.std.proofs.lemmas.Slice.Eq.{bytes_eq-Decides}
use Rattle.std.specs.Prelude.{IsTrue, is_some, if◌then◌else◌, slice_get}
use Rattle.std.specs.List.{flat_map, list_all}
use Rattle.std.specs.Str.{bytes_eq}
use Rattle.fw_addr.specs.Subnets.{Subnet}
use Rattle.fw_addr.specs.declared.icmp.IcmpNumbers.{IcmpNumbers}
use Rattle.fw_addr.specs.declared.packet.Family.{Family}
use Rattle.fw_addr.specs.declared.packet.Family.TheVariants.{V4, V6}
use Rattle.fw_model.specs.declared.binding.Binding.{Binding}
use Rattle.fw_model.specs.declared.binding.Binding.TheVariants as binding
use Rattle.fw_model.specs.declared.ipset.IpSet.{IpSet}
use Rattle.fw_model.specs.declared.ipset.SetKind.{SetKind}
use Rattle.fw_model.specs.declared.ipset.SetKind.TheVariants as kind
use Rattle.fw_model.specs.declared.port.Port.{Port}
use Rattle.fw_model.specs.declared.rich.Rich.{Rich}
use Rattle.fw_model.specs.declared.rich.Side.{Side}
use Rattle.fw_model.specs.declared.service.Service.{Service}
use Rattle.lower_match.proofs.RichSides.{receiver_holds, source_holds}
use Rattle.lower_match.specs.Forms.{alternatives_at, at_end, at_ends, each_at, ends, icmp_alternatives, member_alternatives, place_alternatives, port_test, source_port_test, typed}
use Rattle.lower_match.specs.Laws.{AreSourcesTold}
use Rattle.lower_match.specs.Lowers.{set_name}
use Rattle.lower_match.specs.RichForms.{behind, both_ask, family_matches, receiver_kind, receiver_matches, receiver_set, receiver_test, set_named, sides_ask, source_kind, source_matches, source_set, source_test, turned_test}
use Rattle.lower_match.specs.Stands.{EachHasSet, Stand, StandAnywhere, alternatives_stand, asked_stands, matches_stand}
use Rattle.nf_rules.specs.declared.rule.Match.{Match}
use Rattle.nf_rules.specs.declared.ruleset.Ruleset.{Ruleset}
use Rattle.nf_rules.specs.declared.test.Test.{Test}
use Rattle.nf_rules.specs.declared.test.Test.TheVariants as test
use Rattle.nf_sound.specs.Names.{set_of}
use Rattle.nf_sound.specs.Sound.{test_stands}

both : (one other : Bool) → one ≡ true → other ≡ true → (one && other) ≡ true
both one other first second = rw (first, second) refl

joined : {A : Type 0} (asked : A → Bool) (xs ys : List A) → list_all asked xs ≡ true → list_all asked ys ≡ true → list_all asked (xs ++ ys) ≡ true
joined asked xs ys one other = list_all-append asked xs ys ∙ both (list_all asked xs) (list_all asked ys) one other

all_mapped : {A B : Type 0} (asked : B → Bool) (of : A → B) (xs : List A) → ((x : A) → asked (of x) ≡ true) → list_all asked (map of xs) ≡ true
all_mapped asked of [] each = refl
all_mapped asked of (x ∷ xs) each = both (asked (of x)) (list_all asked (map of xs)) (each x) (all_mapped asked of xs each)

all_in_each : {A B : Type 0} (asked : B → Bool) (of : A → List B) (xs : List A) → ((x : A) → list_all asked (of x) ≡ true) → list_all asked (flat_map of xs) ≡ true
all_in_each asked of [] each = refl
all_in_each asked of (x ∷ xs) each = joined asked (of x) (flat_map of xs) (each x) (all_in_each asked of xs each)

-- services, and ICMP types
module _ (rules : Ruleset) where
  end_stands : (asked : Test) (place : Option Subnet) → test_stands rules asked ≡ true → matches_stand rules (at_end asked place) ≡ true
  end_stands asked None is = rw is refl
  end_stands asked (Some net) is = rw is refl

  each_stands : {A : Type 0} (places : List (Option Subnet)) (of : A → Test) (entries : List A) → ((entry : A) → test_stands rules (of entry) ≡ true)
      → alternatives_stand rules (each_at places of entries) ≡ true
  each_stands places of entries each =
      all_in_each (matches_stand rules) (λ entry. at_ends places (of entry)) entries
      (λ entry. all_mapped (matches_stand rules) (at_end (of entry)) places (λ place. end_stands (of entry) place (each entry)))

  member_stands : (service : Service) → alternatives_stand rules (member_alternatives service) ≡ true
  member_stands service =
      joined (matches_stand rules) (each_at (ends service) port_test service.ports ++ each_at (ends service) test.Proto service.protocols) (each_at (ends service) source_port_test service.source_ports)
      (joined (matches_stand rules) (each_at (ends service) port_test service.ports) (each_at (ends service) test.Proto service.protocols)
      (each_stands (ends service) port_test service.ports (λ (port : Port). refl))
      (each_stands (ends service) test.Proto service.protocols (λ protocol. refl)))
      (each_stands (ends service) source_port_test service.source_ports (λ (port : Port). refl))

  at_stands : (found : Option Service) → alternatives_stand rules (alternatives_at found) ≡ true
  at_stands None = refl
  at_stands (Some service) = member_stands service

  typed_stands : (of : Family) (number : Option ℕ) → alternatives_stand rules (typed of number) ≡ true
  typed_stands of None = refl
  typed_stands of (Some number) = refl

  icmp_stands : (numbers : Option IcmpNumbers) → alternatives_stand rules (icmp_alternatives numbers) ≡ true
  icmp_stands None = refl
  icmp_stands (Some numbers) = joined (matches_stand rules) (typed V4 numbers.v4) (typed V6 numbers.v6) (typed_stands V4 numbers.v4) (typed_stands V6 numbers.v6)

pub places_stand : (services : List Service) (places : List ℕ) (alternatives : List (List Match)) → alternatives ≡ flat_map (place_alternatives services) places
    → StandAnywhere alternatives
places_stand services places alternatives is rules =
    ap (alternatives_stand rules) is
    ∙ all_in_each (matches_stand rules) (place_alternatives services) places (λ place. at_stands rules (slice_get services place))

pub types_stand : (numbers : Option IcmpNumbers) (alternatives : List (List Match)) → alternatives ≡ icmp_alternatives numbers → StandAnywhere alternatives
types_stand numbers alternatives is rules = ap (alternatives_stand rules) is ∙ icmp_stands rules numbers

-- sides of rich rules
module _ (ipsets : List IpSet) (rules : Ruleset) (sets : EachHasSet ipsets rules) where
  -- a set that was found is there
  found_there : (name : List ℕ) (known : List IpSet) → EachHasSet known rules → (set : IpSet) → set_named known name ≡ Some set → IsTrue (is_some (set_of rules.sets (set_name name)))
  found_there name [] there set is = cc
  found_there name (first ∷ others) there set is =
      by (bytes_eq first.name name) refl is (found_there name others (λ other among. there other (inr among)) set)
    where
      by : (b : Bool) → bytes_eq first.name name ≡ b → (if b then Some first else set_named others name) ≡ Some set
          → (set_named others name ≡ Some set → IsTrue (is_some (set_of rules.sets (set_name name))))
          → IsTrue (is_some (set_of rules.sets (set_name name)))
      by true same here rest =
          subst (λ (one : List ℕ). IsTrue (is_some (set_of rules.sets (set_name one)))) ((bytes_eq-Decides first.name name).0 same) (there first (inl refl))
      by false same here rest = rest here

  kind_stands : (name : List ℕ) (of : SetKind) → IsTrue (is_some (set_of rules.sets (set_name name))) → test_stands rules (source_kind name of) ≡ true
  kind_stands name kind.Ip there = there
  kind_stands name kind.Net there = there
  kind_stands name kind.Mac there = there

  receiver_kind_stands : (name : List ℕ) (of : SetKind) → IsTrue (is_some (set_of rules.sets (set_name name))) → asked_stands rules (receiver_kind name of) ≡ true
  receiver_kind_stands name kind.Ip there = there
  receiver_kind_stands name kind.Net there = there
  receiver_kind_stands name kind.Mac there = refl

  pub source_stands : (told : Binding) → asked_stands rules (source_test ipsets told) ≡ true
  source_stands (binding.Net net) = refl
  source_stands (binding.Mac mac) = refl
  source_stands (binding.Set name) = by (set_named ipsets name) refl
    where
      by : (found : Option IpSet) → set_named ipsets name ≡ found → asked_stands rules (source_set name found) ≡ true
      by None is = refl
      by (Some set) is = kind_stands name set.kind (found_there name ipsets sets set is)

  pub receiver_stands : (told : Binding) → asked_stands rules (receiver_test ipsets told) ≡ true
  receiver_stands (binding.Net net) = refl
  receiver_stands (binding.Mac mac) = refl
  receiver_stands (binding.Set name) = by (set_named ipsets name) refl
    where
      by : (found : Option IpSet) → set_named ipsets name ≡ found → asked_stands rules (receiver_set name found) ≡ true
      by None is = refl
      by (Some set) is = receiver_kind_stands name set.kind (found_there name ipsets sets set is)

  abbrev side_stands : Option (List Match) → Bool
  side_stands None = true
  side_stands (Some matches) = matches_stand rules matches

  turned_stands : (inverted : Bool) (asked : Option Test) → asked_stands rules asked ≡ true → side_stands (turned_test inverted asked) ≡ true
  turned_stands inverted (Some asked) is = rw is refl
  turned_stands true None is = refl
  turned_stands false None is = refl

  source_side_stands : (side : Option Side) → side_stands (source_matches ipsets side) ≡ true
  source_side_stands None = refl
  source_side_stands (Some side) = turned_stands side.not (source_test ipsets side.what) (source_stands side.what)

  receiver_side_stands : (side : Option Side) → side_stands (receiver_matches ipsets side) ≡ true
  receiver_side_stands None = refl
  receiver_side_stands (Some side) = turned_stands side.not (receiver_test ipsets side.what) (receiver_stands side.what)

  family_stands : (of : Option Family) → side_stands (Some (family_matches of)) ≡ true
  family_stands None = refl
  family_stands (Some of) = refl

  both_stand : (one other : Option (List Match)) → side_stands one ≡ true → side_stands other ≡ true → side_stands (both_ask one other) ≡ true
  both_stand None other first second = refl
  both_stand (Some one) None first second = refl
  both_stand (Some one) (Some other) first second = joined (λ tested. test_stands rules tested.test) one other first second

  sides_stand : (rule : Rich) → side_stands (sides_ask ipsets rule) ≡ true
  sides_stand rule =
      both_stand (both_ask (Some (family_matches rule.family)) (source_matches ipsets rule.source)) (receiver_matches ipsets rule.dest)
      (both_stand (Some (family_matches rule.family)) (source_matches ipsets rule.source) (family_stands rule.family) (source_side_stands rule.source))
      (receiver_side_stands rule.dest)

  behind_stands : (front : List Match) (alternatives : List (List Match)) → matches_stand rules front ≡ true → alternatives_stand rules alternatives ≡ true
      → alternatives_stand rules (behind front alternatives) ≡ true
  behind_stands front [] one all = refl
  behind_stands front (first ∷ others) one all =
      both (matches_stand rules (front ++ first)) _ (joined (λ tested. test_stands rules tested.test) front first one (left (matches_stand rules first) _ all))
      (behind_stands front others one (right (matches_stand rules first) _ all))
    where
      left : (a b : Bool) → (a && b) ≡ true → a ≡ true
      left true b is = refl
      left false b is = cc

      right : (a b : Bool) → (a && b) ≡ true → b ≡ true
      right true b is = is
      right false b is = cc

pub rich_stands : (ipsets : List IpSet) (rule : Rich) (front : List Match) (elements alternatives : List (List Match))
    → sides_ask ipsets rule ≡ Some front
    → StandAnywhere elements
    → alternatives ≡ behind front elements
    → Stand ipsets alternatives
rich_stands ipsets rule front elements alternatives asks stand made rules sets =
    ap (alternatives_stand rules) made
    ∙ behind_stands ipsets rules sets front elements
    (sym (ap (side_stands ipsets rules sets) asks) ∙ sides_stand ipsets rules sets rule) (stand rules)

-- what stands anywhere stands where the sets are
pub with_sets : (ipsets : List IpSet) (alternatives : List (List Match)) → StandAnywhere alternatives → Stand ipsets alternatives
with_sets ipsets alternatives stand rules sets = stand rules

pub sources_told : AreSourcesTold
sources_told = record {
  senders = λ ipsets leaving sets packet told stand. source_holds ipsets leaving sets stand packet told;
  receivers = λ ipsets leaving sets packet told stand. receiver_holds ipsets leaving sets stand packet told;
  senders_stand = λ ipsets rules told sets. source_stands ipsets rules sets told;
  receivers_stand = λ ipsets rules told sets. receiver_stands ipsets rules sets told;
}
