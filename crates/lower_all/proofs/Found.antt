-- Lists in which no two items have the same name: the one of a name is what is found, and in order each is before those behind it.
use Rattle.std.proofs.Common.{◌≡◌, ◌≢◌, ◌∙◌, ◌<◌, ℕ, inl, inr, Bool, true, false, List, [], ◌∷◌, ◌++◌, length, get_or, set, swap, Some, ◌==◌, Ordering, AllPairs, IsPermutation, refl, sym, ap, subst, subst₂, arith}
use Rattle.std.specs.Prelude.{if◌then◌else◌}
use Rattle.std.specs.Cmp.Lexicographic.{slice_cmp}
use Rattle.std.specs.Ordering.{is_eq, nat_cmp}
use Rattle.std.specs.Str.{bytes_eq}
use Rattle.std.specs.declared.cmp.Ordering.TheVariants.{Less, Equal, Greater}
use Rattle.std.proofs.lemmas.Bool.{cases_eq, cases_lt}
use Rattle.std.proofs.lemmas.Bool.Decides.{nat_tests}
use Rattle.std.proofs.lemmas.List.{get_or-set_other, get_or-set_same, length-set}
use Rattle.std.proofs.lemmas.List.Edits.{swap_is}
use Rattle.std.proofs.lemmas.List.Sorted.{Contains-permutation, IsPermutation-keeps, IsPermutation-swap, IsPermutation-sym, length_permutation}
use Rattle.std.proofs.lemmas.Map.Text.{is_eq-slice_cmp}
use Rattle.std.proofs.lemmas.Slice.Eq.{bytes_eq-Decides}
use Rattle.fw_zone.specs.Lists.{IsIn}
use Rattle.nf_sound.specs.Names.{IsByName, called}
use Rattle.lower_all.specs.Ordered.{IsOrdered}
use Rattle.lower_blocks.proofs.Lists.{in_place, pairs_head, pairs_joined, pairs_tail, place_of}

-- the same items in another order

module _ {T : Type 0} where
  pub is_in_again : (items others : List T) → IsPermutation items others → (item : T) → IsIn item items → IsIn item others
  is_in_again items others again item there =
      let new = Contains-permutation items others item again (place_of items item there) in
      subst (λ (it : T). IsIn it others) new.2 (in_place others new.0 item new.1)

  pub is_in_before : (items others : List T) → IsPermutation items others → (item : T) → IsIn item others → IsIn item items
  is_in_before items others again item there = is_in_again others items (IsPermutation-sym items others again) item there

-- where the item at a place comes from once two others have changed places
abbrev moved : ℕ → ℕ → ℕ → ℕ
moved one other at = if at == other then one else if at == one then other else at

moved_within : (one other at count : ℕ) → one < count → other < count → at < count → moved one other at < count
moved_within one other at count first second within = grind (arith, nat_tests)

moved_apart : (one other at another : ℕ) → at ≢ another → moved one other at ≢ moved one other another
moved_apart one other at another differ same = grind (arith, nat_tests)

moved_last : (one other at : ℕ) → at ≡ other → moved one other at ≡ one
moved_last one other at last = grind (arith, nat_tests)

moved_first : (one other at : ℕ) → at ≢ other → at ≡ one → moved one other at ≡ other
moved_first one other at not_last first = grind (arith, nat_tests)

moved_none : (one other at : ℕ) → at ≢ other → at ≢ one → moved one other at ≡ at
moved_none one other at not_last not_first = grind (arith, nat_tests)

module _ {T : Type 0} where
  at_moved : (items : List T) (one other at : ℕ) (default : T) → one < length items → other < length items
      → get_or (swap items one other) at default ≡ get_or items (moved one other at) default
  at_moved items one other at default first second =
      rw (← swap_is items one other default first second)
      (elim (cases_eq at other) [
        | inl last ↦ ap (λ (place : ℕ). get_or (set (set items one (get_or items other default)) other (get_or items one default)) place default) last
            ∙ get_or-set_same (set items one (get_or items other default)) other (get_or items one default) default (omega (arith, second, length-set items one (get_or items other default)))
            ∙ from items (moved_last one other at last)
        | inr not_last ↦ get_or-set_other (set items one (get_or items other default)) other at (get_or items one default) default not_last
            ∙ elim (cases_eq at one) [
              | inl here ↦ ap (λ (place : ℕ). get_or (set items one (get_or items other default)) place default) here
                  ∙ get_or-set_same items one (get_or items other default) default first
                  ∙ from items (moved_first one other at not_last here)
              | inr not_here ↦ get_or-set_other items one at (get_or items other default) default not_here ∙ from items (moved_none one other at not_last not_here)
            ]
      ])
    where
      from : {one other : ℕ} (list : List T) → one ≡ other → get_or list other default ≡ get_or list one default
      from list same = ap (λ (place : ℕ). get_or list place default) (sym same)

module _ {T : Type 0} (R : T → T → Type 0) (turned : (one other : T) → R one other → R other one) where
  -- any two of a list
  abbrev AnyTwo : List T → Type 0
  AnyTwo items = (one other : ℕ) (default : T) → one ≢ other → one < length items → other < length items → R (get_or items one default) (get_or items other default)

  any_two : (items : List T) → AllPairs R items → AnyTwo items
  any_two items all one other default differ within there = elim (cases_lt one other) [
    | inl before ↦ all one other default before there
    | inr behind ↦ turned (get_or items other default) (get_or items one default) (all other one default (omega (arith, behind, differ)) within)
  ]

  swapped : (items : List T) (one other : ℕ) → one < length items → other < length items → AnyTwo items → AnyTwo (swap items one other)
  swapped items one other first second all at another default differ within there =
      let same = length_permutation items (swap items one other) (IsPermutation-swap items (swap items one other) one other first second refl) in
      let old : at < length items = omega (arith, within, same) in
      let new : another < length items = omega (arith, there, same) in
      subst₂ R (sym (at_moved items one other at default first second)) (sym (at_moved items one other another default first second))
      (all (moved one other at) (moved one other another) default (moved_apart one other at another differ)
      (moved_within one other at (length items) first second old) (moved_within one other another (length items) first second new))

  pub pairs_again : (items others : List T) → IsPermutation items others → AllPairs R items → AllPairs R others
  pairs_again items others again all one other default before within =
      IsPermutation-keeps items AnyTwo (any_two items all) swapped others again one other default (omega (arith, before)) (omega (arith, before, within)) within

-- names

same_name : (one name : List ℕ) → slice_cmp nat_cmp one name ≡ Equal → one ≡ name
same_name one name is = (bytes_eq-Decides one name).0 (sym (is_eq-slice_cmp one name) ∙ ap is_eq is)

less : (answer : Ordering) → answer ≢ Equal → answer ≢ Greater → answer ≡ Less
less Less differ upto = refl
less Equal differ upto = absurd (differ refl)
less Greater differ upto = absurd (upto refl)

-- a test that is no
untrue : (answer : Bool) → answer ≢ true → answer ≡ false
untrue true no_one = absurd (no_one refl)
untrue false no_one = refl

module _ {T : Type 0} (name_of : T → List ℕ) where
  -- no two items have the same name
  abbrev pub AreApart : List T → Type 0
  AreApart items = AllPairs (λ one other. name_of one ≢ name_of other) items

  pub by_name : (items : List T) → IsOrdered name_of items → AreApart items → IsByName name_of items
  by_name items ordered apart one other default before within =
      less (slice_cmp nat_cmp (name_of (get_or items one default)) (name_of (get_or items other default)))
      (λ same. apart one other default before within (same_name (name_of (get_or items one default)) (name_of (get_or items other default)) same))
      (ordered one other default before within)

  pub found : (items : List T) → AreApart items → (item : T) → IsIn item items → called name_of (name_of item) items ≡ Some item
  found [] apart item there = absurd there
  found (first ∷ others) apart item (inl same) =
      let here : bytes_eq (name_of first) (name_of item) ≡ true = (bytes_eq-Decides (name_of first) (name_of item)).1 (ap name_of same) in
      rw here (ap Some same)
  found (first ∷ others) apart item (inr there) =
      let differ = pairs_head (λ one other. name_of one ≢ name_of other) first others apart item there in
      let not_here : bytes_eq (name_of first) (name_of item) ≡ false = untrue (bytes_eq (name_of first) (name_of item)) (λ is. differ ((bytes_eq-Decides (name_of first) (name_of item)).0 is)) in
      let rest = found others (pairs_tail (λ one other. name_of one ≢ name_of other) first others apart) item there in
      rw not_here rest

  -- of two items with the same name there is one
  pub only_one : (items : List T) → AreApart items → (one other : T) → IsIn one items → IsIn other items → name_of one ≡ name_of other → one ≡ other
  only_one items apart one other there there_too same =
      let first : called name_of (name_of other) items ≡ Some one = subst (λ (name : List ℕ). called name_of name items ≡ Some one) same (found items apart one there) in
      let second = found items apart other there_too in
      cc

  pub apart_again : (items others : List T) → IsPermutation items others → AreApart items → AreApart others
  apart_again items others again apart = pairs_again (λ one other. name_of one ≢ name_of other) (λ one other differ same. differ (sym same)) items others again apart

  pub apart_joined : (one other : List T) → AreApart one → AreApart other
      → ((first second : T) → IsIn first one → IsIn second other → name_of first ≢ name_of second)
      → AreApart (one ++ other)
  apart_joined one other apart apart_other across = pairs_joined (λ one other. name_of one ≢ name_of other) one other apart apart_other across
