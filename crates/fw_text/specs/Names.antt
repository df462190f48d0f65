-- Tables of names: each row has a name and what it stands for.
use Rattle.std.specs.Prelude.{ℕ, ◌==◌, if◌then◌else◌, List, [], ◌∷◌, Option, None, Some}
use Rattle.std.specs.Str.{bytes_eq}

-- what the first row of that name stands for
abbrev pub named : {X : Type 0} → List (List ℕ × X) → List ℕ → Option X
named [] text = None
named (row ∷ rows) text = if bytes_eq text row.0 then Some row.1 else named rows text

-- the name in the first row of that number
abbrev pub name_of : List (List ℕ × ℕ) → ℕ → Option (List ℕ)
name_of [] n = None
name_of (row ∷ rows) n = if row.1 == n then Some row.0 else name_of rows n
