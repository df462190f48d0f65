-- Items of lists by their places, and one item more.
use Rattle.std.proofs.Common.{◌≡◌, ℕ, zero, suc, List, [], ◌∷◌, ◌++◌, Some, slice_get, slice_set, fold, refl, ap}

-- an item that is set to what it was
pub set_as_it_was : {A : Type 0} (items : List A) (place : ℕ) (item : A) → slice_get items place ≡ Some item → slice_set items place item ≡ items
set_as_it_was [] place item is = cc
set_as_it_was (first ∷ others) zero item is = cc
set_as_it_was (first ∷ others) (suc place) item is = ap (λ rest. first ∷ rest) (set_as_it_was others place item is)

-- one step more of a fold
pub fold_more : {A B : Type 0} (step : B → A → B) (start : B) (items : List A) (item : A) → fold step start (items ++ item ∷ []) ≡ step (fold step start items) item
fold_more step start [] item = refl
fold_more step start (first ∷ others) item = fold_more step (step start first) others item
