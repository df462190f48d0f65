-- What holds of every item of a list, over lists that are sorted, mapped and put together.
use Rattle.std.proofs.Common.{◌≡◌, List, [], ◌∷◌, ◌++◌, map, Bool, true, false, Option, None, Some, refl, inl, inr, subst}
use Rattle.std.specs.Prelude.{if◌then◌else◌, ⊤}
use Rattle.std.specs.List.{filter, find, flat_map}
use Rattle.std.specs.Ordering.{is_gt}
use Rattle.std.specs.declared.cmp.Ordering.{Ordering}
use Rattle.fw_hits.specs.Bindings.{earlier, first_by}
use Rattle.fw_order.specs.Order.{in_order, placed}
use Rattle.fw_zone.specs.Lists.{IsIn}

abbrev pub Every : {A : Type 0} → (A → Type 0) → List A → Type 0
Every P [] = ⊤
Every P (x ∷ xs) = P x × Every P xs

module _ {A : Type 0} (P : A → Type 0) where
  pub every_listed : (xs : List A) → ((x : A) → IsIn x xs → P x) → Every P xs
  every_listed [] given = tt
  every_listed (x ∷ xs) given = (given x (inl refl), every_listed xs (λ other there. given other (inr there)))

  pub every_joined : (xs ys : List A) → Every P xs → Every P ys → Every P (xs ++ ys)
  every_joined [] ys one other = other
  every_joined (x ∷ xs) ys one other = (one.0, every_joined xs ys one.1 other)

  every_placed : (lt : A → A → Bool) (x : A) (ys : List A) → P x → Every P ys → Every P (placed lt x ys)
  every_placed lt x [] one all = (one, tt)
  every_placed lt x (y ∷ ys) one all = by (lt y x) (every_placed lt x ys one all.1)
    where
      by : (b : Bool) → Every P (placed lt x ys) → Every P (if b then y ∷ placed lt x ys else x ∷ y ∷ ys)
      by true rest = (all.0, rest)
      by false rest = (one, all)

  pub every_in_order : (lt : A → A → Bool) (xs : List A) → Every P xs → Every P (in_order lt xs)
  every_in_order lt [] all = tt
  every_in_order lt (x ∷ xs) all = every_placed lt x (in_order lt xs) all.0 (every_in_order lt xs all.1)

  -- what passes a test has what the test gives
  pub every_kept : (passes : A → Bool) (xs : List A) → ((x : A) → IsIn x xs → passes x ≡ true → P x) → Every P (filter passes xs)
  every_kept passes [] given = tt
  every_kept passes (x ∷ xs) given = by (passes x) refl (every_kept passes xs (λ other there. given other (inr there)))
    where
      by : (b : Bool) → passes x ≡ b → Every P (filter passes xs) → Every P (if b then x ∷ filter passes xs else filter passes xs)
      by true is rest = (given x (inl refl) is, rest)
      by false is rest = rest

  pub found_is : (passes : A → Bool) (xs : List A) (found : A) → ((x : A) → IsIn x xs → passes x ≡ true → P x) → find passes xs ≡ Some found → P found
  found_is passes [] found given is = cc
  found_is passes (x ∷ xs) found given is =
      by (passes x) refl is (found_is passes xs found (λ other there. given other (inr there)))
    where
      by : (b : Bool) → passes x ≡ b → (if b then Some x else find passes xs) ≡ Some found → (find passes xs ≡ Some found → P found) → P found
      by true is here rest = let same : x ≡ found = cc in subst P same (given x (inl refl) is)
      by false is here rest = rest here

  -- the first in an order is one of them
  pub first_is : (order : A → A → Ordering) (xs : List A) (first : A) → Every P xs → first_by order xs ≡ Some first → P first
  first_is order [] first all is = cc
  first_is order (x ∷ xs) first all is = by (first_by order xs) refl is (first_is order xs first all.1)
    where
      among : (other : A) (b : Bool) → (if b then Some other else Some x) ≡ Some first → (Some other ≡ Some first → P first) → P first
      among other true here rest = rest here
      among other false here rest = let same : x ≡ first = cc in subst P same all.0

      by : (others : Option A) → first_by order xs ≡ others → earlier order x others ≡ Some first → (first_by order xs ≡ Some first → P first) → P first
      by (Some other) is here rest = among other (is_gt (order x other)) here (λ same. rest (let whole : first_by order xs ≡ Some first = cc in whole))
      by None is here rest = let same : x ≡ first = cc in subst P same all.0

pub every_mapped : {A B : Type 0} (P : B → Type 0) (f : A → B) (xs : List A) → Every (λ x. P (f x)) xs → Every P (map f xs)
every_mapped P f [] all = tt
every_mapped P f (x ∷ xs) all = (all.0, every_mapped P f xs all.1)

pub every_in_each : {A B : Type 0} (P : B → Type 0) (f : A → List B) (xs : List A) → Every (λ x. Every P (f x)) xs → Every P (flat_map f xs)
every_in_each P f [] all = tt
every_in_each P f (x ∷ xs) all = every_joined P (f x) (flat_map f xs) all.0 (every_in_each P f xs all.1)

-- what one thing gives of another
pub every_so : {A : Type 0} (P Q : A → Type 0) → ((x : A) → P x → Q x) → (xs : List A) → Every P xs → Every Q xs
every_so P Q gives [] all = tt
every_so P Q gives (x ∷ xs) all = (gives x all.0, every_so P Q gives xs all.1)
