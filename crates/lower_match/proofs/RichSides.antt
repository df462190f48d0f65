-- What a rule's family, source and destination ask is what the manual asks of a packet.
use Rattle.std.proofs.Common.{◌≡◌, ◌∙◌, ◌==◌, ℕ, Bool, true, false, not, ◌&&◌, ◌||◌, List, [], ◌∷◌, Option, None, Some, refl, sym, ap, subst, inl, inr, arith, if◌then◌else◌}
use Rattle.std.proofs.lemmas.Grind.{common_steps}
use Rattle.std.proofs.lemmas.List.Folds.{list_all-append}
use Rattle.std.proofs.lemmas.Slice.Eq.{bytes_eq-Decides}
use Rattle.std.specs.List.{list_all, list_any}
use Rattle.std.specs.Str.{bytes_eq}
use Rattle.fw_addr.specs.declared.addr.Addr.{Addr}
use Rattle.fw_addr.specs.declared.addr.Addr.TheVariants as addr
use Rattle.fw_addr.specs.declared.packet.Family.{Family}
use Rattle.fw_addr.specs.declared.packet.Family.TheVariants as families
use Rattle.fw_addr.specs.Subnets.{family}
use Rattle.fw_hits.specs.Rich.{is_at, is_of_rule, turned}
use Rattle.fw_hits.specs.Sources.{entries_hold, is_mac, is_of_family, item_has_mac, matches_source, set_holds}
use Rattle.fw_model.specs.declared.binding.Binding.{Binding}
use Rattle.fw_model.specs.declared.binding.Binding.TheVariants as binding
use Rattle.fw_model.specs.declared.ipset.IpSet.{IpSet}
use Rattle.fw_model.specs.declared.ipset.Item.{Item}
use Rattle.fw_model.specs.declared.ipset.Item.TheVariants as item
use Rattle.fw_model.specs.declared.ipset.SetKind.{SetKind}
use Rattle.fw_model.specs.declared.ipset.SetKind.TheVariants as kind
use Rattle.fw_model.specs.declared.packet.Packet.{Packet}
use Rattle.fw_model.specs.declared.rich.Rich.{Rich}
use Rattle.fw_model.specs.declared.rich.Side.{Side}
use Rattle.fw_zone.specs.Lists.{IsIn}
use Rattle.lower_match.specs.Laws.{asked_holds}
use Rattle.lower_match.specs.Lowers.{EachStands, StandsFor, set_name}
use Rattle.lower_match.specs.RichForms.{both_ask, family_matches, receiver_kind, receiver_matches, receiver_set, receiver_test, set_named, sides_ask, source_kind, source_matches, source_set, source_test, turned_test}
use Rattle.lower_match.proofs.Tests.{and_true, or_false}
use Rattle.nf_eval.specs.Sets.{holds_address}
use Rattle.nf_chains.specs.Tests.{match_at, test_at}
use Rattle.nf_eval.specs.Tests.{is_from, is_from_set, is_same_family}
use Rattle.nf_rules.specs.declared.rule.Match.{Match}
use Rattle.nf_rules.specs.declared.set.NfSet.{NfSet}
use Rattle.nf_rules.specs.declared.test.Test.{Test}

-- matches that must all hold, or what never does
abbrev pub all_hold : Option (List ℕ) → List NfSet → Packet → Option (List Match) → Bool
all_hold leaving sets packet None = false
all_hold leaving sets packet (Some matches) = list_all (match_at leaving sets packet) matches

and_false : (b : Bool) → (b && false) ≡ false
and_false true = refl
and_false false = refl

both_hold : (leaving : Option (List ℕ)) (sets : List NfSet) (packet : Packet) (one other : Option (List Match))
    → all_hold leaving sets packet (both_ask one other) ≡ (all_hold leaving sets packet one && all_hold leaving sets packet other)
both_hold leaving sets packet None other = refl
both_hold leaving sets packet (Some one) None = sym (and_false (list_all (match_at leaving sets packet) one))
both_hold leaving sets packet (Some one) (Some other) = list_all-append (match_at leaving sets packet) one other

turned_holds : (leaving : Option (List ℕ)) (sets : List NfSet) (packet : Packet) (inverted : Bool) (asked : Option Test)
    → all_hold leaving sets packet (turned_test inverted asked) ≡ turned inverted (asked_holds leaving sets packet asked)
turned_holds leaving sets packet true (Some asked) = and_true (not (test_at leaving sets packet asked))
turned_holds leaving sets packet false (Some asked) = and_true (test_at leaving sets packet asked)
turned_holds leaving sets packet true None = refl
turned_holds leaving sets packet false None = refl

family_holds : (leaving : Option (List ℕ)) (sets : List NfSet) (packet : Packet) (of : Option Family)
    → all_hold leaving sets packet (Some (family_matches of)) ≡ is_of_rule of packet
family_holds leaving sets packet None = refl
family_holds leaving sets packet (Some of) = and_true (is_same_family (family packet.src) of) ∙ by of packet.src
  where
    by : (wanted : Family) (address : Addr) → is_same_family (family address) wanted ≡ is_of_family wanted address
    by families.V4 (addr.V4 number) = refl
    by families.V4 (addr.V6 number) = refl
    by families.V6 (addr.V4 number) = refl
    by families.V6 (addr.V6 number) = refl

joined : (one other whole : Bool) → one ≡ whole → (other || whole) ≡ whole → ((one || other) || whole) ≡ whole
joined true other true is rest = refl
joined false other false is rest = rest
joined true other false is rest = cc
joined false other true is rest = rest

first_decides : (one other whole : Bool) → one ≡ whole → (other || whole) ≡ whole → (one || other) ≡ one
first_decides true other whole is all = refl
first_decides false true true is all = cc
first_decides false true false is all = cc
first_decides false false true is all = cc
first_decides false false false is all = refl

-- What an ipset holds is what the set of its name holds; by its kind one of the two.
module _ (sets : List NfSet) (name : List ℕ) where
  abbrev held : Addr → Option ℕ → Bool
  held address mac = holds_address sets (set_name name) address || is_from_set sets (set_name name) mac

  abbrev Stands : IpSet → Type 0
  Stands set = (address : Addr) (mac : Option ℕ) → set_holds set address mac ≡ held address mac

  named_stands : (set : IpSet) → bytes_eq set.name name ≡ true → StandsFor sets set → Stands set
  named_stands set same stands =
      subst (λ (other : List ℕ). (address : Addr) (mac : Option ℕ) → set_holds set address mac ≡ (holds_address sets (set_name other) address || is_from_set sets (set_name other) mac))
      ((bytes_eq-Decides set.name name).0 same) stands

  abbrev found : Addr → Option ℕ → Option IpSet → Bool
  found address mac None = false
  found address mac (Some set) = set_holds set address mac

  -- of some sets of the name each holds the same
  any_holds : (address : Addr) (mac : Option ℕ) (ipsets : List IpSet)
      → ((set : IpSet) → IsIn set ipsets → StandsFor sets set)
      → (list_any (λ set. bytes_eq set.name name && set_holds set address mac) ipsets || held address mac) ≡ held address mac
  any_holds address mac [] stand = refl
  any_holds address mac (set ∷ others) stand =
      by (bytes_eq set.name name) refl (any_holds address mac others (λ other there. stand other (inr there)))
    where
      by : (b : Bool) → bytes_eq set.name name ≡ b
          → (list_any (λ one. bytes_eq one.name name && set_holds one address mac) others || held address mac) ≡ held address mac
          → (((b && set_holds set address mac) || list_any (λ one. bytes_eq one.name name && set_holds one address mac) others) || held address mac) ≡ held address mac
      by false same rest = rest
      by true same rest = joined (set_holds set address mac) _ _ (named_stands set same (stand set (inl refl)) address mac) rest

  named_holds : (address : Addr) (mac : Option ℕ) (ipsets : List IpSet)
      → ((set : IpSet) → IsIn set ipsets → StandsFor sets set)
      → list_any (λ set. bytes_eq set.name name && set_holds set address mac) ipsets ≡ found address mac (set_named ipsets name)
  named_holds address mac [] stand = refl
  named_holds address mac (set ∷ others) stand =
      by (bytes_eq set.name name) refl (named_holds address mac others (λ other there. stand other (inr there)))
      (any_holds address mac others (λ other there. stand other (inr there)))
    where
      by : (b : Bool) → bytes_eq set.name name ≡ b
          → list_any (λ one. bytes_eq one.name name && set_holds one address mac) others ≡ found address mac (set_named others name)
          → (list_any (λ one. bytes_eq one.name name && set_holds one address mac) others || held address mac) ≡ held address mac
          → ((b && set_holds set address mac) || list_any (λ one. bytes_eq one.name name && set_holds one address mac) others) ≡ found address mac (if b then Some set else set_named others name)
      by false same rest all = rest
      by true same rest all = first_decides (set_holds set address mac) _ (held address mac) (named_stands set same (stand set (inl refl)) address mac) all

  found_stands : (ipsets : List IpSet) → ((set : IpSet) → IsIn set ipsets → StandsFor sets set) → (set : IpSet) → set_named ipsets name ≡ Some set → Stands set
  found_stands [] stand set is = cc
  found_stands (first ∷ others) stand set is =
      by (bytes_eq first.name name) refl is (found_stands others (λ other there. stand other (inr there)) set)
    where
      by : (b : Bool) → bytes_eq first.name name ≡ b → (if b then Some first else set_named others name) ≡ Some set
          → (set_named others name ≡ Some set → Stands set) → Stands set
      by true same is rest = let one : first ≡ set = cc in subst Stands one (named_stands first same (stand first (inl refl)))
      by false same is rest = rest is

no_macs : (items : List Item) → list_any (item_has_mac None) items ≡ false
no_macs [] = refl
no_macs (item.Net net ∷ items) = no_macs items
no_macs (item.Mac mac ∷ items) = no_macs items

-- a set of addresses asks no hardware address, and one of these no address
with_kind : (set : IpSet) (of : SetKind) (address : Addr) (mac : Option ℕ) → set.kind ≡ of
    → set_holds set address mac ≡ (not set.timeout && entries_hold of set.family set.items address mac)
with_kind set of address mac is = ap (λ (one : SetKind). not set.timeout && entries_hold one set.family set.items address mac) is

holds_no_mac : (set : IpSet) (address : Addr) → set.kind ≡ kind.Mac → set_holds set address None ≡ false
holds_no_mac set address is =
    with_kind set kind.Mac address None is ∙ ap (λ (any : Bool). not set.timeout && any) (no_macs set.items) ∙ and_false (not set.timeout)

right_of_none : (one other : Bool) → one ≡ false → (one || other) ≡ other
right_of_none one other is = rw is refl

no_address : (one : Bool) → (one || false) ≡ false → one ≡ false
no_address true is = is
no_address false is = refl

module _ (leaving : Option (List ℕ)) (sets : List NfSet) (name : List ℕ) (set : IpSet) (stands : Stands sets name set) (packet : Packet) where
  by_address : (address : Addr) → set_holds set address None ≡ holds_address sets (set_name name) address
  by_address address = stands address None ∙ or_false (holds_address sets (set_name name) address)

  source_kind_holds : (of : SetKind) → set.kind ≡ of → set_holds set packet.src packet.mac ≡ test_at leaving sets packet (source_kind name of)
  source_kind_holds kind.Ip is = with_kind set kind.Ip packet.src packet.mac is ∙ sym (with_kind set kind.Ip packet.src None is) ∙ by_address packet.src
  source_kind_holds kind.Net is = with_kind set kind.Net packet.src packet.mac is ∙ sym (with_kind set kind.Net packet.src None is) ∙ by_address packet.src
  source_kind_holds kind.Mac is =
      stands packet.src packet.mac
      ∙ right_of_none (holds_address sets (set_name name) packet.src) (is_from_set sets (set_name name) packet.mac)
      (no_address (holds_address sets (set_name name) packet.src) (sym (stands packet.src None) ∙ holds_no_mac set packet.src is))

  receiver_kind_holds : (of : SetKind) → set.kind ≡ of → set_holds set packet.dst None ≡ asked_holds leaving sets packet (receiver_kind name of)
  receiver_kind_holds kind.Ip is = by_address packet.dst
  receiver_kind_holds kind.Net is = by_address packet.dst
  receiver_kind_holds kind.Mac is = holds_no_mac set packet.dst is

turned_round : (a b : ℕ) → (a == b) ≡ (b == a)
turned_round a b = grind (arith, common_steps)

mac_holds : (mac : ℕ) (sender : Option ℕ) → is_mac mac sender ≡ is_from mac sender
mac_holds mac None = refl
mac_holds mac (Some sender) = turned_round mac sender

module _ (ipsets : List IpSet) (leaving : Option (List ℕ)) (sets : List NfSet) (stand : EachStands ipsets sets) (packet : Packet) where
  pub source_holds : (asked : Binding) → matches_source ipsets packet.src packet.mac asked ≡ asked_holds leaving sets packet (source_test ipsets asked)
  source_holds (binding.Net net) = refl
  source_holds (binding.Mac mac) = mac_holds mac packet.mac
  source_holds (binding.Set name) = named_holds sets name packet.src packet.mac ipsets stand ∙ by (set_named ipsets name) refl
    where
      by : (there : Option IpSet) → set_named ipsets name ≡ there → found sets name packet.src packet.mac there ≡ asked_holds leaving sets packet (source_set name there)
      by None is = refl
      by (Some set) is = source_kind_holds leaving sets name set (found_stands sets name ipsets stand set is) packet set.kind refl

  pub receiver_holds : (asked : Binding) → matches_source ipsets packet.dst None asked ≡ asked_holds leaving sets packet (receiver_test ipsets asked)
  receiver_holds (binding.Net net) = refl
  receiver_holds (binding.Mac mac) = refl
  receiver_holds (binding.Set name) = named_holds sets name packet.dst None ipsets stand ∙ by (set_named ipsets name) refl
    where
      by : (there : Option IpSet) → set_named ipsets name ≡ there → found sets name packet.dst None there ≡ asked_holds leaving sets packet (receiver_set name there)
      by None is = refl
      by (Some set) is = receiver_kind_holds leaving sets name set (found_stands sets name ipsets stand set is) packet set.kind refl

  source_side : (side : Option Side) → is_at ipsets packet.src packet.mac side ≡ all_hold leaving sets packet (source_matches ipsets side)
  source_side None = refl
  source_side (Some side) = ap (turned side.not) (source_holds side.what) ∙ sym (turned_holds leaving sets packet side.not (source_test ipsets side.what))

  receiver_side : (side : Option Side) → is_at ipsets packet.dst None side ≡ all_hold leaving sets packet (receiver_matches ipsets side)
  receiver_side None = refl
  receiver_side (Some side) = ap (turned side.not) (receiver_holds side.what) ∙ sym (turned_holds leaving sets packet side.not (receiver_test ipsets side.what))

  pub sides_hold : (rule : Rich)
      → (is_of_rule rule.family packet && is_at ipsets packet.src packet.mac rule.source && is_at ipsets packet.dst None rule.dest)
      ≡ all_hold leaving sets packet (sides_ask ipsets rule)
  sides_hold rule =
      let family = all_hold leaving sets packet (Some (family_matches rule.family)) in
      let source = all_hold leaving sets packet (source_matches ipsets rule.source) in
      let receiver = all_hold leaving sets packet (receiver_matches ipsets rule.dest) in
      let parts : (is_of_rule rule.family packet && is_at ipsets packet.src packet.mac rule.source && is_at ipsets packet.dst None rule.dest) ≡ (family && source && receiver) =
      rw (source_side rule.source, receiver_side rule.dest, sym (family_holds leaving sets packet rule.family)) refl in
      parts
      ∙ ap (λ (front : Bool). front && receiver) (sym (both_hold leaving sets packet (Some (family_matches rule.family)) (source_matches ipsets rule.source)))
      ∙ sym (both_hold leaving sets packet (both_ask (Some (family_matches rule.family)) (source_matches ipsets rule.source)) (receiver_matches ipsets rule.dest))
