-- The first item of a sorted list that passes a test is the first, in that order, of those that pass it.
use Rattle.std.proofs.Common.{◌≡◌, ◌∙◌, List, [], ◌∷◌, Bool, true, false, ◌||◌, Option, Some, refl, sym, ap}
use Rattle.std.specs.Prelude.{if◌then◌else◌, ⊤}
use Rattle.std.specs.Cmp.{IsStrictWeakOrder, IsTotalOrder}
use Rattle.std.specs.List.{filter, find, list_any}
use Rattle.std.specs.Ordering.{is_gt, is_lt, ordering_reverse}
use Rattle.std.specs.declared.cmp.Ordering.{Ordering}
use Rattle.std.specs.declared.cmp.Ordering.TheVariants as ordering
use Rattle.std.proofs.lemmas.List.Sorted.{ranks_by}
use Rattle.fw_hits.specs.Bindings.{earlier, first_by}
use Rattle.fw_order.specs.Order.{in_order, placed}

or_left : (a b : Bool) → (a || b) ≡ false → a ≡ false
or_left true b is = is
or_left false b is = refl

or_right : (a b : Bool) → (a || b) ≡ false → b ≡ false
or_right true b is = cc
or_right false b is = is

neither : (a b : Bool) → a ≡ false → b ≡ false → (a || b) ≡ false
neither a b one other = rw (one, other) refl

reversed : (answer : Ordering) → is_gt (ordering_reverse answer) ≡ is_lt answer
reversed ordering.Less = refl
reversed ordering.Equal = refl
reversed ordering.Greater = refl

module _ {A : Type 0} (order : A → A → Ordering) (total : IsTotalOrder order) where
  abbrev before : A → A → Bool
  before one other = is_lt (order one other)

  ranked : IsStrictWeakOrder before
  ranked = ranks_by total (λ (item : A). item)

  -- no item comes strictly before one that stands before it
  abbrev Rises : List A → Type 0
  Rises [] = ⊤
  Rises (x ∷ xs) = (list_any (λ y. before y x) xs ≡ false) × Rises xs

  behind_is : (x y : A) → is_gt (order x y) ≡ before y x
  behind_is x y = ap is_gt (total.antisymm x y) ∙ reversed (order y x)

  any_placed : (asked : A → Bool) (x : A) (ys : List A) → asked x ≡ false → list_any asked ys ≡ false → list_any asked (placed before x ys) ≡ false
  any_placed asked x [] one none = neither (asked x) _ one refl
  any_placed asked x (y ∷ ys) one none = by (before y x) (any_placed asked x ys one (or_right (asked y) _ none))
    where
      by : (b : Bool) → list_any asked (placed before x ys) ≡ false → list_any asked (if b then y ∷ placed before x ys else x ∷ y ∷ ys) ≡ false
      by true rest = neither (asked y) _ (or_left (asked y) _ none) rest
      by false rest = neither (asked x) _ one none

  -- what doesn't come before y doesn't come before x, which y doesn't come before
  below : (x y : A) → before y x ≡ false → (ys : List A) → list_any (λ z. before z y) ys ≡ false → list_any (λ z. before z x) ys ≡ false
  below x y least [] none = refl
  below x y least (z ∷ zs) none =
      neither (before z x) _ (ranked.chain z y x (or_left (before z y) _ none) least) (below x y least zs (or_right (before z y) _ none))

  placed_rises : (x : A) (ys : List A) → Rises ys → Rises (placed before x ys)
  placed_rises x [] up = (refl, tt)
  placed_rises x (y ∷ ys) up = by (before y x) refl (placed_rises x ys up.1)
    where
      by : (b : Bool) → before y x ≡ b → Rises (placed before x ys) → Rises (if b then y ∷ placed before x ys else x ∷ y ∷ ys)
      by true is rest = (any_placed (λ w. before w y) x ys (ranked.one_way y x is) up.0, rest)
      by false is rest = (neither (before y x) _ is (below x y is ys up.0), up)

  rises : (xs : List A) → Rises (in_order before xs)
  rises [] = tt
  rises (x ∷ xs) = placed_rises x (in_order before xs) (rises xs)

  module _ (passes : A → Bool) where
    -- one that was found among items none of which comes before x is behind x
    found_behind : (x : A) (ys : List A) → list_any (λ y. before y x) ys ≡ false → earlier order x (find passes ys) ≡ Some x
    found_behind x [] none = refl
    found_behind x (y ∷ ys) none = by (passes y) (found_behind x ys (or_right (before y x) _ none))
      where
        by : (b : Bool) → earlier order x (find passes ys) ≡ Some x → earlier order x (if b then Some y else find passes ys) ≡ Some x
        by true rest = ap (λ (other : Bool). if other then Some y else Some x) (behind_is x y ∙ or_left (before y x) _ none)
        by false rest = rest

    placed_found : (x : A) (ys : List A) → Rises ys → passes x ≡ true → find passes (placed before x ys) ≡ earlier order x (find passes ys)
    placed_found x [] up is = rw is refl
    placed_found x (y ∷ ys) up is = by (before y x) (passes y) refl refl (placed_found x ys up.1 is)
      where
        by : (first yes : Bool) → before y x ≡ first → passes y ≡ yes
            → find passes (placed before x ys) ≡ earlier order x (find passes ys)
            → find passes (if first then y ∷ placed before x ys else x ∷ y ∷ ys) ≡ earlier order x (if yes then Some y else find passes ys)
        by true true here there rest =
            ap (λ (b : Bool). if b then Some y else find passes (placed before x ys)) there
            ∙ sym (ap (λ (other : Bool). if other then Some y else Some x) (behind_is x y ∙ here))
        by true false here there rest =
            ap (λ (b : Bool). if b then Some y else find passes (placed before x ys)) there ∙ rest
        by false true here there rest =
            ap (λ (b : Bool). if b then Some x else find passes (y ∷ ys)) is
            ∙ sym (ap (λ (other : Bool). if other then Some y else Some x) (behind_is x y ∙ here))
        by false false here there rest =
            ap (λ (b : Bool). if b then Some x else find passes (y ∷ ys)) is
            ∙ sym (found_behind x ys (below x y here ys up.0))

    placed_past : (x : A) (ys : List A) → passes x ≡ false → find passes (placed before x ys) ≡ find passes ys
    placed_past x [] is = rw is refl
    placed_past x (y ∷ ys) is = by (before y x) (placed_past x ys is)
      where
        by : (b : Bool) → find passes (placed before x ys) ≡ find passes ys
            → find passes (if b then y ∷ placed before x ys else x ∷ y ∷ ys) ≡ find passes (y ∷ ys)
        by true same = ap (λ (rest : Option A). if passes y then Some y else rest) same
        by false same = ap (λ (b : Bool). if b then Some x else find passes (y ∷ ys)) is

    pub first_in_order : (xs : List A) → find passes (in_order before xs) ≡ first_by order (filter passes xs)
    first_in_order [] = refl
    first_in_order (x ∷ xs) = by (passes x) refl (first_in_order xs)
      where
        by : (b : Bool) → passes x ≡ b → find passes (in_order before xs) ≡ first_by order (filter passes xs)
            → find passes (placed before x (in_order before xs)) ≡ first_by order (if b then x ∷ filter passes xs else filter passes xs)
        by true is rest = placed_found x (in_order before xs) (rises xs) is ∙ ap (earlier order x) rest
        by false is rest = placed_past x (in_order before xs) is ∙ rest
