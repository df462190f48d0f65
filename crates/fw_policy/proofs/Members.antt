-- Tests of lists, and what they tell of what is in them.
use Rattle.std.proofs.Common.{◌≡◌, ◌∙◌, ℕ, ◌+◌, ◌<◌, ◌≤◌, suc, ◌⊎◌, inl, inr, Bool, true, false, not, ◌&&◌, ◌||◌, List, [], ◌∷◌, length, Option, None, Some, refl, sym, subst, arith}
use Rattle.std.specs.Bool.{Decides}
use Rattle.std.specs.Prelude.{if◌then◌else◌}
use Rattle.std.specs.List.{list_all, list_any, position, position_or_len}
use Rattle.std.proofs.lemmas.Bool.{and_from, and_parts, cond-false, cond-true, false≢true, le-ltb, lt-ltb, or_parts}
use Rattle.std.proofs.lemmas.Bool.Decides.{Decides-and, Decides-like, Decides-or}
use native.Mathlib.Numerals.{unary_clauses}
use Rattle.fw_zone.specs.Lists.{IsIn}

module _ {A : Type 0} (test : A → Bool) where
  -- where one passes, and where none does
  place_of_any : (items : List A) → list_any test items ≡ true → position_or_len test items < length items
  place_of_any [] is = absurd (false≢true is)
  place_of_any (item ∷ items) is = by (test item) is (place_of_any items)
    where
      by : (passes : Bool) → (passes || list_any test items) ≡ true → (list_any test items ≡ true → position_or_len test items < length items)
          → (if not passes then 1 + position_or_len test items else 0) < suc (length items)
      by true is rest = omega arith
      by false is rest = let below = rest is in omega arith

  place_of_none : (items : List A) → list_any test items ≡ false → length items ≤ position_or_len test items
  place_of_none [] is = omega arith
  place_of_none (item ∷ items) is = by (test item) is (place_of_none items)
    where
      by : (passes : Bool) → (passes || list_any test items) ≡ false → (list_any test items ≡ false → length items ≤ position_or_len test items)
          → suc (length items) ≤ (if not passes then 1 + position_or_len test items else 0)
      by true is rest = cc
      by false is rest = let above = rest is in omega arith

  pub no_place : (items : List A) → (position test items ≡ None → list_any test items ≡ false) × (list_any test items ≡ false → position test items ≡ None)
  no_place items = (λ is. by (list_any test items) refl is, λ is. cond-false _ _ _ (le-ltb _ _ (place_of_none items is)))
    where
      by : (passes : Bool) → list_any test items ≡ passes → position test items ≡ None → list_any test items ≡ false
      by true is none =
          let found : position test items ≡ Some (position_or_len test items) = cond-true _ _ _ (lt-ltb _ _ (place_of_any items is)) in
          cc
      by false is none = is

  module _ (P : A → Type 0) (each : (item : A) → Decides (test item) (P item)) where
    -- one of the items is so
    pub any_in : (items : List A) → Decides (list_any test items) ((item : A) × IsIn item items × P item)
    any_in [] = (λ is. absurd (false≢true is), λ found. absurd found.1)
    any_in (item ∷ items) = Decides-like _ to from (Decides-or _ _ (each item) (any_in items))
      where
        to : P item ⊎ ((other : A) × IsIn other items × P other) → (other : A) × IsIn other (item ∷ items) × P other
        to (inl so) = (item, inl refl, so)
        to (inr found) = (found.0, inr found.1, found.2)

        from : (other : A) × IsIn other (item ∷ items) × P other → P item ⊎ ((other : A) × IsIn other items × P other)
        from found = by found.0 found.1 found.2
          where
            by : (other : A) → IsIn other (item ∷ items) → P other → P item ⊎ ((other : A) × IsIn other items × P other)
            by other (inl here) so = inl (subst P (sym here) so)
            by other (inr there) so = inr (other, there, so)

    -- each of them is
    pub all_in : (items : List A) → Decides (list_all test items) ((item : A) → IsIn item items → P item)
    all_in [] = (λ is item found. absurd found, λ all. refl)
    all_in (item ∷ items) = Decides-like _ to from (Decides-and _ _ (each item) (all_in items))
      where
        to : P item × ((other : A) → IsIn other items → P other) → (other : A) → IsIn other (item ∷ items) → P other
        to both other (inl here) = subst P here both.0
        to both other (inr there) = both.1 other there

        from : ((other : A) → IsIn other (item ∷ items) → P other) → P item × ((other : A) → IsIn other items → P other)
        from all = (all item (inl refl), λ other there. all other (inr there))

-- what holds wherever something else does
pub implied : {P Q : Type 0} (one other : Bool) → Decides one P → Decides other Q → Decides (not (one && not other)) (P → Q)
implied true true first second = (λ is so. second.0 refl, λ is. refl)
implied true false first second = (λ is. absurd (false≢true is), λ so. second.1 (so (first.0 refl)))
implied false other first second = (λ is so. absurd (false≢true (first.1 so)), λ so. refl)

pub twice : {P : Type 0} (one : Bool) → Decides one P → Decides (not (not one)) P
twice true decides = decides
twice false decides = decides
