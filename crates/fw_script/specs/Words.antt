-- The words of the command line.
use Rattle.std.specs.Prelude.{ℕ, Bool, false, codes, List, [], ◌∷◌}
use Rattle.std.specs.Str.{bytes_eq}

-- whether they are the one word `run`
abbrev pub is_run : List (List ℕ) → Bool
is_run [] = false
is_run (word ∷ []) = bytes_eq word (codes "run")
is_run (word ∷ next ∷ words) = false
