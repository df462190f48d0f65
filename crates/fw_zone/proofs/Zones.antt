-- Lists in which an item is set.
use Rattle.std.proofs.Common.{◌≡◌, ◌≢◌, refl, ℕ, zero, suc, List, [], ◌∷◌, Some, slice_get, slice_set, ap}

-- to what it was
pub set_as_it_was : {A : Type 0} (items : List A) (place : ℕ) (item : A) → slice_get items place ≡ Some item → slice_set items place item ≡ items
set_as_it_was [] place item is = cc
set_as_it_was (first ∷ others) zero item is = cc
set_as_it_was (first ∷ others) (suc place) item is = ap (λ rest. first ∷ rest) (set_as_it_was others place item is)

-- what stands at another place stays
pub other_stays : {A : Type 0} (items : List A) (place other : ℕ) (item : A) → other ≢ place → slice_get (slice_set items place item) other ≡ slice_get items other
other_stays [] place other item differs = refl
other_stays (first ∷ others) zero zero item differs = absurd (differs refl)
other_stays (first ∷ others) zero (suc other) item differs = refl
other_stays (first ∷ others) (suc place) zero item differs = refl
other_stays (first ∷ others) (suc place) (suc other) item differs = other_stays others place other item (λ same. differs (ap suc same))
