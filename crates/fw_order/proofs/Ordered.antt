-- A stable sort gives the list in order: lists that rise and keep what is alike as it is listed are one list.
use Rattle.std.proofs.Common.{◌≡◌, ◌∙◌, ℕ, ◌+◌, ◌<◌, ◌≤◌, suc, List, [], ◌∷◌, map, length, Bool, true, false, ◌||◌, ◌&&◌, not, refl, sym, ap, subst, arith}
use Rattle.std.specs.Prelude.{if◌then◌else◌, slice_index_or, ⊤}
use Rattle.std.specs.Cmp.{IsStrictWeakOrder}
use Rattle.std.specs.List.{filter, list_any}
use Rattle.std.specs.List.Sorted.{IsSortedBy, IsStableBy, ties}
use native.Mathlib.Numerals.{unary_clauses}
use Rattle.fw_order.specs.Order.{in_order, placed}

-- no item comes strictly before one that stands before it
abbrev Rises : {A : Type 0} → (A → A → Bool) → List A → Type 0
Rises lt [] = ⊤
Rises lt (x ∷ xs) = (list_any (λ y. lt y x) xs ≡ false) × Rises lt xs

or_left : (a b : Bool) → (a || b) ≡ false → a ≡ false
or_left true b is = is
or_left false b is = refl

or_right : (a b : Bool) → (a || b) ≡ false → b ≡ false
or_right true b is = cc
or_right false b is = is

neither : (a b : Bool) → a ≡ false → b ≡ false → (a || b) ≡ false
neither a b one other = rw (one, other) refl

module _ {A : Type 0} (lt : A → A → Bool) (order : IsStrictWeakOrder lt) where
  -- what doesn't come before y doesn't come before x, which y doesn't come before
  below : (x y : A) → lt y x ≡ false → (ys : List A) → list_any (λ z. lt z y) ys ≡ false → list_any (λ z. lt z x) ys ≡ false
  below x y least [] none = refl
  below x y least (z ∷ zs) none =
      neither (lt z x) _ (order.chain z y x (or_left (lt z y) _ none) least) (below x y least zs (or_right (lt z y) _ none))

  rises_from_sorted : (xs : List A) → IsSortedBy lt xs → Rises lt xs
  rises_from_sorted [] up = tt
  rises_from_sorted (x ∷ []) up = (refl, tt)
  rises_from_sorted (x ∷ y ∷ ys) up =
      let rest : Rises lt (y ∷ ys) = rises_from_sorted (y ∷ ys) (λ k d low high. next k d (up (suc k) d (omega arith) (omega arith))) in
      let first : lt y x ≡ false = up 0 x (omega arith) (omega arith) in
      (neither (lt y x) _ first (below x y first ys rest.0), rest)
    where
      next : (k : ℕ) (d : A) → lt (slice_index_or (x ∷ y ∷ ys) (suc k + 1) d) (slice_index_or (x ∷ y ∷ ys) (suc k) d) ≡ false
          → lt (slice_index_or (y ∷ ys) (k + 1) d) (slice_index_or (y ∷ ys) k d) ≡ false
      next k d given = simp unary_clauses (simp unary_clauses at given)

  not_itself : (x : A) (b : Bool) → lt x x ≡ b → lt x x ≡ false
  not_itself x true is = order.one_way x x is
  not_itself x false is = is

  ties_itself : (x : A) → ties lt x x ≡ true
  ties_itself x = rw (not_itself x _ refl) refl

  -- x isn't alike to w, which doesn't come before z, which x comes before
  not_alike : (x z w : A) (b : Bool) → lt x z ≡ true → lt w z ≡ false → lt x w ≡ b → ties lt x w ≡ false
  not_alike x z w true first later is = rw is refl
  not_alike x z w false first later is =
      let no : lt x z ≡ false = order.chain x w z is later in
      cc

  none_behind : (x z : A) (zs : List A) → lt x z ≡ true → list_any (λ w. lt w z) zs ≡ false → filter (ties lt x) zs ≡ []
  none_behind x z [] first none = refl
  none_behind x z (w ∷ ws) first none =
      rw (not_alike x z w _ first (or_left (lt w z) _ none) refl) (none_behind x z ws first (or_right (lt w z) _ none))

  -- nothing is alike to one that comes before all
  none_alike : (x z : A) (zs : List A) → lt x z ≡ true → list_any (λ w. lt w z) zs ≡ false → filter (ties lt x) (z ∷ zs) ≡ []
  none_alike x z zs first none =
      let apart : ties lt x z ≡ false = rw first refl in
      rw apart (none_behind x z zs first none)

  kept : (x : A) (xs : List A) → filter (ties lt x) (x ∷ xs) ≡ x ∷ filter (ties lt x) xs
  kept x xs = rw (ties_itself x) refl

  -- the first of a list that rises comes before none of another that has the same
  first_is_least : (x z : A) (xs zs : List A) (b : Bool)
      → list_any (λ w. lt w z) zs ≡ false
      → filter (ties lt x) (z ∷ zs) ≡ filter (ties lt x) (x ∷ xs)
      → lt x z ≡ b
      → lt x z ≡ false
  first_is_least x z xs zs false none same is = is
  first_is_least x z xs zs true none same is =
      let empty : filter (ties lt x) (z ∷ zs) ≡ [] = none_alike x z zs is none in
      let one : filter (ties lt x) (x ∷ xs) ≡ x ∷ filter (ties lt x) xs = kept x xs in
      cc

  heads : (z y : A) (zs ys : List A)
      → ties lt z y ≡ true
      → filter (ties lt z) (z ∷ zs) ≡ filter (ties lt z) (y ∷ ys)
      → z ≡ y
  heads z y zs ys alike same =
      let one : filter (ties lt z) (z ∷ zs) ≡ z ∷ filter (ties lt z) zs = kept z zs in
      let other : filter (ties lt z) (y ∷ ys) ≡ y ∷ filter (ties lt z) ys = rw alike refl in
      cc

  tails : (x z : A) (zs ys : List A) (b : Bool)
      → ties lt x z ≡ b
      → filter (ties lt x) (z ∷ zs) ≡ filter (ties lt x) (z ∷ ys)
      → filter (ties lt x) zs ≡ filter (ties lt x) ys
  tails x z zs ys true is same =
      let one : filter (ties lt x) (z ∷ zs) ≡ z ∷ filter (ties lt x) zs = rw is refl in
      let other : filter (ties lt x) (z ∷ ys) ≡ z ∷ filter (ties lt x) ys = rw is refl in
      cc
  tails x z zs ys false is same =
      let one : filter (ties lt x) (z ∷ zs) ≡ filter (ties lt x) zs = rw is refl in
      let other : filter (ties lt x) (z ∷ ys) ≡ filter (ties lt x) ys = rw is refl in
      cc

  same_list : (zs ys : List A) → Rises lt zs → Rises lt ys → ((x : A) → filter (ties lt x) zs ≡ filter (ties lt x) ys) → zs ≡ ys
  same_list [] [] up up' same = refl
  same_list [] (y ∷ ys) up up' same =
      let none = same y in
      let one : filter (ties lt y) (y ∷ ys) ≡ y ∷ filter (ties lt y) ys = kept y ys in
      cc
  same_list (z ∷ zs) [] up up' same =
      let none = same z in
      let one : filter (ties lt z) (z ∷ zs) ≡ z ∷ filter (ties lt z) zs = kept z zs in
      cc
  same_list (z ∷ zs) (y ∷ ys) up up' same =
      let above : lt y z ≡ false = first_is_least y z ys zs _ up.0 (same y) refl in
      let above' : lt z y ≡ false = first_is_least z y zs ys _ up'.0 (sym (same z)) refl in
      let alike : ties lt z y ≡ true = rw (above, above') refl in
      let head : z ≡ y = heads z y zs ys alike (same z) in
      let rest : zs ≡ ys = same_list zs ys up.1 up'.1 (λ x. tails x z zs ys _ refl (same x ∙ ap (λ w. filter (ties lt x) (w ∷ ys)) (sym head))) in
      cc

  -- what is asked of all is asked of the one that is placed, too
  any_placed : (asked : A → Bool) (x : A) (ys : List A) → asked x ≡ false → list_any asked ys ≡ false → list_any asked (placed lt x ys) ≡ false
  any_placed asked x [] one none = neither (asked x) _ one refl
  any_placed asked x (y ∷ ys) one none = by (lt y x) (any_placed asked x ys one (or_right (asked y) _ none))
    where
      by : (b : Bool) → list_any asked (placed lt x ys) ≡ false → list_any asked (if b then y ∷ placed lt x ys else x ∷ y ∷ ys) ≡ false
      by true rest = neither (asked y) _ (or_left (asked y) _ none) rest
      by false rest = neither (asked x) _ one none

  placed_rises : (x : A) (ys : List A) → Rises lt ys → Rises lt (placed lt x ys)
  placed_rises x [] up = (refl, tt)
  placed_rises x (y ∷ ys) up = by (lt y x) refl (placed_rises x ys up.1)
    where
      by : (b : Bool) → lt y x ≡ b → Rises lt (placed lt x ys) → Rises lt (if b then y ∷ placed lt x ys else x ∷ y ∷ ys)
      by true is rest = (any_placed (λ w. lt w y) x ys (order.one_way y x is) up.0, rest)
      by false is rest = (neither (lt y x) _ is (below x y is ys up.0), up)

  rises : (xs : List A) → Rises lt (in_order lt xs)
  rises [] = tt
  rises (x ∷ xs) = placed_rises x (in_order lt xs) (rises xs)

  -- what is alike to w is as if x stood in front: of two that are exchanged one isn't alike to w
  swapped : (w x y : A) (one other : Bool) (ys : List A)
      → lt y x ≡ true
      → ties lt w x ≡ one
      → ties lt w y ≡ other
      → filter (ties lt w) (y ∷ x ∷ ys) ≡ filter (ties lt w) (x ∷ y ∷ ys)
  swapped w x y true true ys before is is' =
      let no : lt y x ≡ false = order.chain y w x (second (lt w y) (lt y w) is') (first (lt w x) (lt x w) is) in
      cc
    where
      first : (a b : Bool) → (not a && not b) ≡ true → a ≡ false
      first true b given = cc
      first false b given = refl

      second : (a b : Bool) → (not a && not b) ≡ true → b ≡ false
      second true b given = cc
      second false true given = cc
      second false false given = refl
  swapped w x y true false ys before is is' = rw (is, is') refl
  swapped w x y false true ys before is is' = rw (is, is') refl
  swapped w x y false false ys before is is' = rw (is, is') refl

  more : (w y : A) (one other : List A) → filter (ties lt w) one ≡ filter (ties lt w) other → filter (ties lt w) (y ∷ one) ≡ filter (ties lt w) (y ∷ other)
  more w y one other same = by (ties lt w y)
    where
      by : (b : Bool) → (if b then y ∷ filter (ties lt w) one else filter (ties lt w) one) ≡ (if b then y ∷ filter (ties lt w) other else filter (ties lt w) other)
      by true = ap (λ rest. y ∷ rest) same
      by false = same

  placed_keeps : (w x : A) (ys : List A) → filter (ties lt w) (placed lt x ys) ≡ filter (ties lt w) (x ∷ ys)
  placed_keeps w x [] = refl
  placed_keeps w x (y ∷ ys) = by (lt y x) refl (placed_keeps w x ys)
    where
      by : (b : Bool) → lt y x ≡ b → filter (ties lt w) (placed lt x ys) ≡ filter (ties lt w) (x ∷ ys)
          → filter (ties lt w) (if b then y ∷ placed lt x ys else x ∷ y ∷ ys) ≡ filter (ties lt w) (x ∷ y ∷ ys)
      by true is rest = more w y (placed lt x ys) (x ∷ ys) rest ∙ swapped w x y _ _ ys is refl refl
      by false is rest = refl

  keeps : (w : A) (xs : List A) → filter (ties lt w) (in_order lt xs) ≡ filter (ties lt w) xs
  keeps w [] = refl
  keeps w (x ∷ xs) = placed_keeps w x (in_order lt xs) ∙ more w x (in_order lt xs) xs (keeps w xs)

  pub sorted_is_in_order : (xs ys : List A) → IsSortedBy lt ys → IsStableBy lt xs ys → ys ≡ in_order lt xs
  sorted_is_in_order xs ys up stable =
      same_list ys (in_order lt xs) (rises_from_sorted ys up) (rises xs) (λ w. stable w ∙ sym (keeps w xs))

map_placed : {A B : Type 0} (f : A → B) (lt : B → B → Bool) (x : A) (ys : List A)
    → map f (placed (λ one other. lt (f one) (f other)) x ys) ≡ placed lt (f x) (map f ys)
map_placed f lt x [] = refl
map_placed f lt x (y ∷ ys) = by (lt (f y) (f x)) (map_placed f lt x ys)
  where
    by : (b : Bool) → map f (placed (λ one other. lt (f one) (f other)) x ys) ≡ placed lt (f x) (map f ys)
        → map f (if b then y ∷ placed (λ one other. lt (f one) (f other)) x ys else x ∷ y ∷ ys) ≡ (if b then f y ∷ placed lt (f x) (map f ys) else f x ∷ f y ∷ map f ys)
    by true rest = ap (λ items. f y ∷ items) rest
    by false rest = refl

-- the order of what is behind references
pub map_in_order : {A B : Type 0} (f : A → B) (lt : B → B → Bool) (xs : List A)
    → map f (in_order (λ one other. lt (f one) (f other)) xs) ≡ in_order lt (map f xs)
map_in_order f lt [] = refl
map_in_order f lt (x ∷ xs) =
    map_placed f lt x (in_order (λ one other. lt (f one) (f other)) xs) ∙ ap (placed lt (f x)) (map_in_order f lt xs)
