-- Parts of a ruleset under their names, in order of these.
use Rattle.std.specs.Prelude.{◌≡◌, ℕ, ◌<◌, ◌≤◌, cond, List, [], ◌∷◌, length, slice_index_or, Option, None, Some, Result, MatchResult}
use Rattle.std.specs.Cmp.Lexicographic.{slice_cmp}
use Rattle.std.specs.Option.{option_map}
use Rattle.std.specs.Ordering.{nat_cmp}
use Rattle.std.specs.Str.{bytes_eq}
use Rattle.std.specs.declared.cmp.Ordering.{Ordering}
use Rattle.std.specs.declared.cmp.Ordering.TheVariants.{Less, Equal, Greater}

-- a part beside the first of others, by how the name of that one compares with the part's
abbrev pub beside : {T : Type 0} → Ordering → T → T → List T → List T → List T
beside Less part first others rest = first ∷ rest
beside Equal part first others rest = part ∷ others
beside Greater part first others rest = part ∷ first ∷ others

-- A part stands under its name: in the place of the one that stood there, or before the first whose name is behind its own.
abbrev pub put : {T : Type 0} → (T → List ℕ) → T → List T → List T
put name_of part [] = part ∷ []
put name_of part (first ∷ others) =
    beside (slice_cmp nat_cmp (name_of first) (name_of part)) part first others (put name_of part others)

-- The part of a name goes; None where there is none.
abbrev pub delete : {T : Type 0} → (T → List ℕ) → List ℕ → List T → Option (List T)
delete name_of name [] = None
delete name_of name (first ∷ others) =
    cond (bytes_eq (name_of first) name) (Some others) (option_map (λ rest. first ∷ rest) (delete name_of name others))

-- Where the part of a name stands; or, where there is none, before which place it would stand.
abbrev pub Lies : {T : Type 0} → (T → List ℕ) → List ℕ → List T → Result ℕ ℕ → Type 0
Lies {T} name_of name parts answer =
    MatchResult answer
    (λ place. (place < length parts) × ((d : T) → slice_cmp nat_cmp (name_of (slice_index_or parts place d)) name ≡ Equal))
    (λ place. (place ≤ length parts)
    × ((k : ℕ) (d : T) → k < place → slice_cmp nat_cmp (name_of (slice_index_or parts k d)) name ≡ Less)
    × ((k : ℕ) (d : T) → place ≤ k → k < length parts → slice_cmp nat_cmp (name_of (slice_index_or parts k d)) name ≡ Greater))
