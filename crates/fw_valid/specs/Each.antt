-- What holds of each item of a list, and lists without repeats.
use Rattle.std.specs.Prelude.{List, [], ◌∷◌, Option, None, Some}
use Rattle.fw_zone.specs.Lists.{IsIn}

module _ {A : Type 0} where
  abbrev pub Each : (A → Type 0) → List A → Type 0
  Each P [] = Unit {0}
  Each P (item ∷ items) = P item × Each P items

  -- no item stands in the list twice
  abbrev pub IsWithoutRepeats : List A → Type 0
  IsWithoutRepeats [] = Unit {0}
  IsWithoutRepeats (item ∷ items) = (¬ (IsIn item items)) × IsWithoutRepeats items

  -- what holds of a part of a record, if it is there
  abbrev pub IfThere : (A → Type 0) → Option A → Type 0
  IfThere P None = Unit {0}
  IfThere P (Some value) = P value
