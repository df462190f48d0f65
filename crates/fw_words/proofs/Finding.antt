-- A search for the words of a key in its middle.
use Rattle.std.proofs.Common.{◌≡◌, ℕ, List, [], ◌∷◌, ◌++◌, drop, Option, None, Some, Bor}
use Rattle.fw_words.specs.Keys.{texts, values}

-- what was found, as a list
abbrev pub found_list : Option (List ℕ) → List (List ℕ)
found_list None = []
found_list (Some value) = value ∷ []

-- the values are what was found, and then those of the words that are left
pub record Finds (key : List ℕ) (words : List (Bor (List ℕ))) (found : Option (List ℕ)) (turns : ℕ) : Type 0 where
  pub values_are : values key (texts words) ≡ found_list found ++ values key (texts (drop turns words))
