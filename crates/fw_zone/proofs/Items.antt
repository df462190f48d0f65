-- Items in the front of a list, and a list around an item.
use Rattle.std.proofs.Common.{◌≡◌, ℕ, zero, suc, ◌+◌, ◌⊎◌, inl, inr, List, [], ◌∷◌, ◌++◌, Some, None, slice_get, take, drop, refl, sym, ap, subst, ◌∙◌, remove, add-one}
use Rattle.fw_zone.specs.Lists.{IsFirstPlace, IsIn, IsRemoved}

-- what stands in a list is in it
pub is_in_at : {A : Type 0} (items : List A) (place : ℕ) (item : A) → slice_get items place ≡ Some item → IsIn item items
is_in_at [] place item is = cc
is_in_at (first ∷ others) zero item is = inl cc
is_in_at (first ∷ others) (suc place) item is = inr (is_in_at others place item is)

-- what is before an item, the item, and what is behind it
pub around : {A : Type 0} (items : List A) (place : ℕ) (item : A) → slice_get items place ≡ Some item → items ≡ take place items ++ item ∷ drop (suc place) items
around [] place item is = cc
around (first ∷ others) zero item is = cc
around (first ∷ others) (suc place) item is = ap (λ rest. first ∷ rest) (around others place item is)

-- an item that isn't before a place, nor at it
absent_up_to : {A : Type 0} (items : List A) (place : ℕ) (item other : A) → slice_get items place ≡ Some other → ¬ (other ≡ item) → ¬ (IsIn item (take place items)) → ¬ (IsIn item (take (suc place) items))
absent_up_to [] place item other is differs absent found = cc
absent_up_to (first ∷ others) zero item other is differs absent (inl found) = differs cc
absent_up_to (first ∷ others) zero item other is differs absent (inr found) = absurd found
absent_up_to (first ∷ others) (suc place) item other is differs absent (inl found) = absent (inl found)
absent_up_to (first ∷ others) (suc place) item other is differs absent (inr found) = absent_up_to others place item other is differs (λ before. absent (inr before)) found

pub absent_before : {A : Type 0} (items : List A) (place : ℕ) (item other : A) → slice_get items place ≡ Some other → ¬ (other ≡ item) → ¬ (IsIn item (take place items)) → ¬ (IsIn item (take (place + 1) items))
absent_before items place item other is differs absent =
    subst (λ (upto : ℕ). ¬ (IsIn item (take upto items))) (sym (add-one place)) (absent_up_to items place item other is differs absent)

-- a list without the item at its first place
pub removed_at : {A : Type 0} (items left : List A) (place : ℕ) (item : A) → IsFirstPlace items place item → left ≡ remove items place → IsRemoved item items left
removed_at items left place item found is = record {
  before = take place items;
  behind = drop (suc place) items;
  was = around items place item found.at;
  first = found.first;
  is = is;
}
