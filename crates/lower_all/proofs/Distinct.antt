-- Lists of names in which none stands twice.
use Rattle.std.proofs.Common.{◌≡◌, ◌≢◌, ℕ, inl, inr, Bool, true, false, List, [], ◌∷◌, ◌++◌, map, ⊎_elim, refl, sym, subst}
use Rattle.std.specs.Prelude.{if◌then◌else◌}
use Rattle.std.specs.List.{filter, flat_map}
use Rattle.fw_valid.specs.Each.{Each, IsWithoutRepeats}
use Rattle.fw_zone.specs.Lists.{IsIn}
use Rattle.lower_all.proofs.Found.{AreApart}
use Rattle.lower_blocks.proofs.Lists.{from_map, in_either, in_map, pairs_more, pairs_none, was_in}

pub each_of : {A : Type 0} (P : A → Type 0) (items : List A) → Each P items → (item : A) → IsIn item items → P item
each_of P [] each item there = absurd there
each_of P (first ∷ others) each item (inl same) = subst P same each.0
each_of P (first ∷ others) each item (inr there) = each_of P others each.1 item there

pub each_from : {A : Type 0} (P : A → Type 0) (items : List A) → ((item : A) → IsIn item items → P item) → Each P items
each_from P [] all = tt
each_from P (item ∷ items) all = (all item (inl refl), each_from P items (λ other there. all other (inr there)))

pub from_flat_map : {A B : Type 0} (f : A → List B) (name : B) (items : List A) → IsIn name (flat_map f items) → (item : A) × IsIn item items × IsIn name (f item)
from_flat_map f name [] there = absurd there
from_flat_map f name (first ∷ others) there =
    ⊎_elim (λ here. (first, inl refl, here)) (λ behind. let rest = from_flat_map f name others behind in (rest.0, inr rest.1, rest.2))
    (in_either name (f first) (flat_map f others) there)

pub distinct_joined : {A : Type 0} (one other : List A) → IsWithoutRepeats one → IsWithoutRepeats other → ((item : A) → IsIn item one → ¬ (IsIn item other)) → IsWithoutRepeats (one ++ other)
distinct_joined [] other distinct distinct_other across = distinct_other
distinct_joined (item ∷ items) other distinct distinct_other across = (
  λ there. ⊎_elim distinct.0 (across item (inl refl)) (in_either item items other there),
  distinct_joined items other distinct.1 distinct_other (λ another old. across another (inr old)),
)

-- what tells an item tells its name
pub distinct_told : {A B C : Type 0} (f : A → B) (g : A → C) → ((one other : A) → g one ≡ g other → f one ≡ f other) → (items : List A) → IsWithoutRepeats (map f items) → IsWithoutRepeats (map g items)
distinct_told f g tells [] distinct = tt
distinct_told f g tells (item ∷ items) distinct = (
  λ there.
      let other = from_map g (g item) items there in
      distinct.0 (subst (λ name. IsIn name (map f items)) (tells other.0 item other.2) (in_map f other.0 items other.1)),
  distinct_told f g tells items distinct.1,
)

pub distinct_filtered : {A B : Type 0} (f : A → B) (test : A → Bool) (items : List A) → IsWithoutRepeats (map f items) → IsWithoutRepeats (map f (filter test items))
distinct_filtered f test [] distinct = tt
distinct_filtered f test (item ∷ items) distinct = by (test item) (distinct_filtered f test items distinct.1)
  where
    by : (b : Bool) → IsWithoutRepeats (map f (filter test items)) → IsWithoutRepeats (map f (if b then item ∷ filter test items else filter test items))
    by true rest = (
      λ there.
          let other = from_map f (f item) (filter test items) there in
          distinct.0 (subst (λ name. IsIn name (map f items)) other.2 (in_map f other.0 items (was_in test other.0 items other.1))),
      rest,
    )
    by false rest = rest

-- several names for each item, which tell the item's own
pub distinct_each : {A B C : Type 0} (f : A → B) (g : A → List C) (items : List A)
    → ((item : A) → IsIn item items → IsWithoutRepeats (g item))
    → ((one other : A) (name : C) → IsIn one items → IsIn other items → IsIn name (g one) → IsIn name (g other) → f one ≡ f other)
    → IsWithoutRepeats (map f items)
    → IsWithoutRepeats (flat_map g items)
distinct_each f g [] each tells distinct = tt
distinct_each f g (item ∷ items) each tells distinct =
    distinct_joined (g item) (flat_map g items)
    (each item (inl refl))
    (distinct_each f g items (λ one there. each one (inr there)) (λ one other name there there_too. tells one other name (inr there) (inr there_too)) distinct.1)
    (λ name here behind.
    let other = from_flat_map g name items behind in
    distinct.0 (subst (λ it. IsIn it (map f items)) (tells other.0 item name (inr other.1) (inl refl) other.2 here) (in_map f other.0 items other.1)))

-- items whose names are distinct are apart
pub apart_from_names : {T : Type 0} (name_of : T → List ℕ) (items : List T) → IsWithoutRepeats (map name_of items) → AreApart name_of items
apart_from_names name_of [] distinct = pairs_none (λ one other. name_of one ≢ name_of other)
apart_from_names name_of (item ∷ items) distinct =
    pairs_more (λ one other. name_of one ≢ name_of other) item items
    (λ other there same. distinct.0 (subst (λ name. IsIn name (map name_of items)) (sym same) (in_map name_of other items there)))
    (apart_from_names name_of items distinct.1)
