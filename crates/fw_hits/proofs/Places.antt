-- The rest of a list from a place on, and what a filter and a map to lists make of it.
use Rattle.std.proofs.Common.{◌≡◌, ◌∙◌, ℕ, zero, suc, List, [], ◌∷◌, ◌++◌, Bool, true, false, cond, Some, slice_get, drop, ap}
use Rattle.std.specs.List.{filter, flat_map}

-- the item at the place, and then those behind it
pub drop_at : {A : Type 0} (items : List A) (place : ℕ) (item : A) → slice_get items place ≡ Some item → drop place items ≡ item ∷ drop (suc place) items
drop_at [] place item is = cc
drop_at (first ∷ others) zero item is = cc
drop_at (first ∷ others) (suc place) item is = drop_at others place item is

pub filter_at : {A : Type 0} (test : A → Bool) (items : List A) (place : ℕ) (item : A)
    → slice_get items place ≡ Some item
    → test item ≡ true
    → filter test (drop place items) ≡ item ∷ filter test (drop (suc place) items)
filter_at test items place item is passes =
    ap (filter test) (drop_at items place item is)
    ∙ ap (λ passed. cond passed (item ∷ filter test (drop (suc place) items)) (filter test (drop (suc place) items))) passes

pub filter_past : {A : Type 0} (test : A → Bool) (items : List A) (place : ℕ) (item : A)
    → slice_get items place ≡ Some item
    → test item ≡ false
    → filter test (drop place items) ≡ filter test (drop (suc place) items)
filter_past test items place item is fails =
    ap (filter test) (drop_at items place item is)
    ∙ ap (λ passed. cond passed (item ∷ filter test (drop (suc place) items)) (filter test (drop (suc place) items))) fails

pub flat_map_at : {A B : Type 0} (to : A → List B) (items : List A) (place : ℕ) (item : A)
    → slice_get items place ≡ Some item
    → flat_map to (drop place items) ≡ to item ++ flat_map to (drop (suc place) items)
flat_map_at to items place item is = ap (flat_map to) (drop_at items place item is)
