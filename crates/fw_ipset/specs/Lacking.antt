-- The items of a list that another list lacks.
use Rattle.std.specs.Prelude.{List, [], ◌∷◌, ◌++◌}
use Rattle.fw_zone.specs.Lists.{IsIn}

-- Of a list, item after item, each that is none of the others is left.
pub data IsLacking {A : Type 0} (others : List A) : List A → List A → Type 0 where
  nothing : IsLacking others [] []
  lacked : {items left : List A} (item : A) → IsLacking others items left → ¬ (IsIn item others) → IsLacking others (items ++ item ∷ []) (left ++ item ∷ [])
  held : {items left : List A} (item : A) → IsLacking others items left → IsIn item others → IsLacking others (items ++ item ∷ []) left
