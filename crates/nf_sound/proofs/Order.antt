-- Lists in order of names: what neighbours show, and what a search by halves finds.
use Rattle.std.proofs.Common.{◌≡◌, ℕ, zero, suc, ◌+◌, ◌<◌, ◌↔◌, ◌⊎◌, inl, inr, Bool, true, false, cond, List, [], ◌∷◌, length, get_or, Option, None, Some, Result, Ok, Err, IsTrue, MatchBool, MatchOption, Ordering, slice_get, refl, sym, ap, subst, ◌∙◌, add-one, arith}
use Rattle.std.specs.Cmp.Lexicographic.{slice_cmp}
use Rattle.std.specs.List.{AllAdjacentBelow}
use Rattle.std.specs.List.Sorted.{IsBinarySearchResult, IsSearchInRange}
use Rattle.std.specs.Ordering.{is_eq, is_lt, nat_cmp, ordering_reverse}
use Rattle.std.specs.Result.{result_ok}
use Rattle.std.specs.Str.{bytes_eq}
use Rattle.std.specs.declared.cmp.Ordering.TheVariants.{Less, Equal, Greater}
use Rattle.std.proofs.lemmas.Bool.{cases_lt}
use Rattle.std.proofs.lemmas.Cmp.{nat_list_cmp_total}
use Rattle.std.proofs.lemmas.List.Sorted.{searchable_from_sorted}
use Rattle.std.proofs.lemmas.Option.{get_or_from_slice_get, slice_get-get_or, slice_get_within}
use Rattle.std.proofs.lemmas.Slice.Eq.{bytes_eq-Decides}
use Rattle.std.proofs.lemmas.Map.Text.{is_eq-slice_cmp}
use Rattle.nf_sound.specs.Names.{IsBefore, IsByName, StandsAt, called}

less : (o : Ordering) → true ≡ is_lt o → o ≡ Less
less Less is = refl
less Equal is = cc
less Greater is = cc

-- two neighbours are in order, so all are
rises : {T : Type 0} (name_of : T → List ℕ) (items : List T) → AllAdjacentBelow (λ one other. IsBefore (name_of one) (name_of other)) items (length items) → (i j : ℕ) (d : T) → i < j → j < length items → IsBefore (name_of (get_or items i d)) (name_of (get_or items j d))
rises name_of items near i zero d before within = absurd (omega arith)
rises name_of items near i (suc j) d before within =
    let last : IsBefore (name_of (get_or items j d)) (name_of (get_or items (suc j) d)) = rw add-one at (near j d (omega arith)) in
    elim (cases_lt i j) [
      | inl further ↦ nat_list_cmp_total.trans (name_of (get_or items i d)) (name_of (get_or items j d)) (name_of (get_or items (suc j) d)) (rises name_of items near i j d further (omega arith)) last
      | inr here ↦ (let same : i ≡ j = omega arith in subst (λ (k : ℕ). IsBefore (name_of (get_or items k d)) (name_of (get_or items (suc j) d))) (sym same) last)
    ]

all_near : {T : Type 0} (name_of : T → List ℕ) (items : List T) → AllAdjacentBelow (λ one other. true ≡ is_lt (slice_cmp nat_cmp (name_of one) (name_of other))) items (length items) → IsByName name_of items
all_near name_of items near = rises name_of items (λ k d within. less _ (near k d within))

not_all : {T : Type 0} (name_of : T → List ℕ) (items : List T) → IsByName name_of items → (k : ℕ) → k + 1 < length items → ((d : T) → false ≡ is_lt (slice_cmp nat_cmp (name_of (get_or items k d)) (name_of (get_or items (k + 1) d)))) → ⊥
not_all name_of [] all k within fails = omega arith
not_all name_of (item ∷ items) all k within fails =
    let here = all k (k + 1) item (omega arith) within in
    let there = fails item in
    let lt : is_lt (slice_cmp nat_cmp (name_of (get_or (item ∷ items) k item)) (name_of (get_or (item ∷ items) (k + 1) item))) ≡ true = ap is_lt here in
    cc

pub by_name_from : {T : Type 0} (name_of : T → List ℕ) (items : List T) (answer : Bool)
    → MatchBool answer (AllAdjacentBelow (λ one other. true ≡ is_lt (slice_cmp nat_cmp (name_of one) (name_of other))) items (length items)) ((k : ℕ) × (k + 1 < length items) × ((d : T) → false ≡ is_lt (slice_cmp nat_cmp (name_of (get_or items k d)) (name_of (get_or items (k + 1) d)))))
    → IsTrue answer ↔ IsByName name_of items
by_name_from name_of items true near = (λ is. all_near name_of items near, λ all. refl)
by_name_from name_of items false far = (λ is. cc, λ all. absurd (not_all name_of items all far.0 far.1 far.2))

-- without its first
tail : {T : Type 0} (name_of : T → List ℕ) (item : T) (items : List T) → IsByName name_of (item ∷ items) → IsByName name_of items
tail name_of item items all = λ i j d before within. all (suc i) (suc j) d (omega arith) (omega arith)

-- names before and behind another are none of that name
before_other : (one name : List ℕ) → slice_cmp nat_cmp one name ≡ Less → bytes_eq one name ≡ false
before_other one name is = sym (is_eq-slice_cmp one name) ∙ ap is_eq is

behind_other : (one name : List ℕ) → slice_cmp nat_cmp one name ≡ Greater → bytes_eq one name ≡ false
behind_other one name is = sym (is_eq-slice_cmp one name) ∙ ap is_eq is

the_same : (one name : List ℕ) → slice_cmp nat_cmp one name ≡ Equal → bytes_eq one name ≡ true
the_same one name is = sym (is_eq-slice_cmp one name) ∙ ap is_eq is

same_name : (one name : List ℕ) → slice_cmp nat_cmp one name ≡ Equal → one ≡ name
same_name one name is = (bytes_eq-Decides one name).0 (the_same one name is)

-- the one of a name is what is found
pub called_at : {T : Type 0} (name_of : T → List ℕ) (name : List ℕ) (items : List T) (place : ℕ) (item : T) → IsByName name_of items → slice_get items place ≡ Some item → slice_cmp nat_cmp (name_of item) name ≡ Equal → called name_of name items ≡ Some item
called_at name_of name [] place item all at same = cc
called_at name_of name (first ∷ items) zero item all at same =
    let here : first ≡ item = cc in
    let is = the_same (name_of item) name same in
    rw here (rw is refl)
called_at name_of name (first ∷ items) (suc place) item all at same =
    let rest = called_at name_of name items place item (tail name_of first items all) at same in
    let here = all 0 (suc place) item (omega arith) (omega (arith, slice_get_within items place item at)) in
    let is_item = get_or_from_slice_get items place item item at in
    let is_name : name_of item ≡ name = same_name (name_of item) name same in
    let before : slice_cmp nat_cmp (name_of first) name ≡ Less = rw (is_item, is_name) at here in
    rw (before_other (name_of first) name before) rest

not_after : (one other : List ℕ) → IsBefore one other → is_lt (slice_cmp nat_cmp other one) ≡ false
not_after one other is =
    let back = nat_list_cmp_total.antisymm other one in
    let after : slice_cmp nat_cmp other one ≡ Greater = back ∙ ap ordering_reverse is in
    ap is_lt after

no_one : {T : Type 0} (name_of : T → List ℕ) (name : List ℕ) (items : List T) → ((k : ℕ) (d : T) → k < length items → bytes_eq (name_of (get_or items k d)) name ≡ false) → called name_of name items ≡ None
no_one name_of name [] none = refl
no_one name_of name (item ∷ items) none =
    let here : bytes_eq (name_of item) name ≡ false = none 0 item (omega arith) in
    rw here (no_one name_of name items (λ k d within. none (suc k) d (omega arith)))

pub found_from : {T : Type 0} (name_of : T → List ℕ) (name : List ℕ) (items : List T) (answer : Result ℕ ℕ) → IsByName name_of items → IsSearchInRange answer (length items) → IsBinarySearchResult (λ item. slice_cmp nat_cmp (name_of item) name) items answer
    → MatchOption (result_ok answer) (called name_of name items ≡ None) (StandsAt name_of name items)
found_from name_of name [] (Ok place) all within found = absurd (omega (arith, within))
found_from name_of name (first ∷ items) (Ok place) all within found =
    let at : slice_get (first ∷ items) place ≡ Some (get_or (first ∷ items) place first) = slice_get-get_or (first ∷ items) place first within in
    record {
      item = get_or (first ∷ items) place first;
      at = at;
      found = called_at name_of name (first ∷ items) place (get_or (first ∷ items) place first) all at (found first);
    }
found_from name_of name items (Err place) all within found =
    let parts = found (searchable_from_sorted nat_list_cmp_total name_of items name (λ k d low high. not_after (name_of (get_or items k d)) (name_of (get_or items (k + 1) d)) (all k (k + 1) d (omega arith) high))) in
    no_one name_of name items (λ k d here. elim (cases_lt k place) [
      | inl before ↦ before_other (name_of (get_or items k d)) name (parts.0 k d (omega arith) before)
      | inr behind ↦ behind_other (name_of (get_or items k d)) name (parts.1 k d behind here)
    ])

pub pick : {T : Type 0} (test : Bool) (first item : T) (rest : Option T) → cond test (Some first) rest ≡ Some item → ((test ≡ true) × (first ≡ item)) ⊎ (rest ≡ Some item)
pick true first item rest is = inl (refl, cc)
pick false first item rest is = inr is

-- what is found has that name
pub called_name : {T : Type 0} (name_of : T → List ℕ) (name : List ℕ) (items : List T) (item : T) → called name_of name items ≡ Some item → name_of item ≡ name
called_name name_of name [] item found = cc
called_name name_of name (first ∷ items) item found = elim (pick (bytes_eq (name_of first) name) first item (called name_of name items) found) [
  | inl here ↦ (bytes_eq-Decides (name_of item) name).0 (rw (← here.1) here.0)
  | inr behind ↦ called_name name_of name items item behind
]
