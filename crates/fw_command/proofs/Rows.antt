-- The rows that `clap` keeps of options that are used once.
use Rattle.std.proofs.Common.{◌≡◌, ◌∙◌, ◌++◌, ◌||◌, List, [], ◌∷◌, Bool, true, false, Option, None, Some, refl, ap, true≢false, append-nil, if◌then◌else◌, find, option_and_then, slice_get}
use Rattle.std.specs.Str.{bytes_eq}
use Rattle.clap.specs.Walk.{Row, Text, at_row, first_of, has_row, more_values, reading_by, used, with_values}
use Rattle.clap.specs.declared.parser.matches.ValueSource.TheVariants.{CommandLine}
use Rattle.fw_command.proofs.Known.{the_rule}

-- the first value of a row
abbrev pub first_value : Row → Option Text
first_value row = slice_get row.values 0

-- the row of an option
abbrev pub new_row : (name value : Text) → Row
new_row name value = record {
  id = name;
  values = value ∷ [];
  count = None;
  source = Some CommandLine;
  reading = reading_by (the_rule name);
}

-- where there is no row of a name, what is missing comes last
no_row : (name : Text) (change : Row → List Row) (missing rows : List Row) → has_row name rows ≡ false → at_row name change missing rows ≡ rows ++ missing
no_row name change missing [] none = refl
no_row name change missing (row ∷ rows) none = go (bytes_eq row.id name) none (no_row name change missing rows)
  where
    go : (found : Bool) → (found || has_row name rows) ≡ false → (has_row name rows ≡ false → at_row name change missing rows ≡ rows ++ missing)
        → (if found then change row ++ rows else row ∷ at_row name change missing rows) ≡ row ∷ rows ++ missing
    go true none rest = absurd (true≢false none)
    go false none rest = ap (λ left. row ∷ left) (rest none)

-- an option that is used for the first time has the last row
pub used_new : (name value : Text) (rows : List Row) → has_row name rows ≡ false → used (the_rule name) (value ∷ []) rows ≡ rows ++ new_row name value ∷ []
used_new name value rows none =
    ap (with_values name (reading_by (the_rule name)) CommandLine (value ∷ [])) (no_row name (λ row. []) [] rows none ∙ append-nil rows)
    ∙ no_row name (more_values CommandLine (value ∷ [])) (new_row name value ∷ []) rows none

pub has_more : (name : Text) (rows : List Row) (row : Row) → has_row name (rows ++ row ∷ []) ≡ (has_row name rows || bytes_eq row.id name)
has_more name [] row = go (bytes_eq row.id name)
  where
    go : (found : Bool) → (found || false) ≡ found
    go true = refl
    go false = refl
has_more name (other ∷ rows) row = go (bytes_eq other.id name) (has_more name rows row)
  where
    go : (found : Bool) → has_row name (rows ++ row ∷ []) ≡ (has_row name rows || bytes_eq row.id name)
        → (found || has_row name (rows ++ row ∷ [])) ≡ ((found || has_row name rows) || bytes_eq row.id name)
    go true rest = refl
    go false rest = rest

-- the first value of a name stands in its first row
pub first_more : (name : Text) (rows : List Row) (row : Row)
    → first_of name (rows ++ row ∷ []) ≡ (if has_row name rows then first_of name rows else first_of name (row ∷ []))
first_more name [] row = refl
first_more name (other ∷ rows) row = go (bytes_eq other.id name) (first_more name rows row)
  where
    go : (found : Bool) → first_of name (rows ++ row ∷ []) ≡ (if has_row name rows then first_of name rows else first_of name (row ∷ []))
        → option_and_then first_value (if found then Some other else find (λ r. bytes_eq r.id name) (rows ++ row ∷ []))
        ≡ (if found || has_row name rows then option_and_then first_value (if found then Some other else find (λ r. bytes_eq r.id name) rows)
        else first_of name (row ∷ []))
    go true rest = refl
    go false rest = rest

-- where a name has no row, it has no value
pub no_value : (name : Text) (rows : List Row) → first_of name rows ≡ (if has_row name rows then first_of name rows else None)
no_value name [] = refl
no_value name (row ∷ rows) = go (bytes_eq row.id name) (no_value name rows)
  where
    go : (found : Bool) → first_of name rows ≡ (if has_row name rows then first_of name rows else None)
        → option_and_then first_value (if found then Some row else find (λ r. bytes_eq r.id name) rows)
        ≡ (if found || has_row name rows then option_and_then first_value (if found then Some row else find (λ r. bytes_eq r.id name) rows) else None)
    go true rest = refl
    go false rest = rest
