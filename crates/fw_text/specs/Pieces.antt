-- A text cut at each of its separators, as `split` cuts it.
use Rattle.std.specs.Prelude.{ℕ, ◌==◌, List, [], Option, None, Some}
use Rattle.std.specs.List.{slice_split}

-- what stands between the separators: always one piece more than there are separators
abbrev pub pieces : ℕ → List ℕ → List (List ℕ)
pieces separator text = slice_split (λ byte. byte == separator) text

-- the pieces of a text that may be absent
abbrev pub later_pieces : ℕ → Option (List ℕ) → List (List ℕ)
later_pieces separator None = []
later_pieces separator (Some text) = pieces separator text
