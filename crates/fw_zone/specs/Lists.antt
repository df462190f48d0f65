-- Lists: what is in them, and one item that goes.
use Rattle.std.specs.Prelude.{◌≡◌, ℕ, ◌⊎◌, Some, slice_get, take, List, [], ◌∷◌, ◌++◌}

-- an item is in a list
abbrev pub IsIn : {A : Type 0} → A → List A → Type 0
IsIn item [] = ⊥
IsIn item (first ∷ others) = (first ≡ item) ⊎ IsIn item others

-- The item went from a list: what was before the first place where it stood, and what was behind that, is left.
pub record IsRemoved {A : Type 0} (item : A) (old new : List A) : Type 0 where
  pub before : List A
  pub behind : List A
  pub was : old ≡ before ++ item ∷ behind
  pub first : ¬ (IsIn item before)
  pub is : new ≡ before ++ behind

-- the first place in a list where an item stands
pub record IsFirstPlace {A : Type 0} (items : List A) (place : ℕ) (item : A) : Type 0 where
  pub at : slice_get items place ≡ Some item
  pub first : ¬ (IsIn item (take place items))
