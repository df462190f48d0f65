-- Places of a journal, counted from 0, and fronts of a journal.
use Rattle.std.specs.Prelude.{◌≡◌, ℕ, ◌<◌, ◌⊎◌, List, [], ◌∷◌, ◌++◌, length, cond, nat_lt}

-- the list begins with the front
abbrev pub IsFront : {E : Type 0} → List E → List E → Type 0
IsFront {E} front whole = (others : List E) × (whole ≡ front ++ others)

-- the place is one of these
abbrev pub Has : List ℕ → ℕ → Type 0
Has [] place = ⊥
Has (first ∷ others) place = (place ≡ first) ⊎ Has others place

-- each place is below all that follow it
abbrev pub Ascending : List ℕ → Type 0
Ascending [] = Unit {0}
Ascending (first ∷ others) = ((place : ℕ) → Has others place → first < place) × Ascending others

-- no place is in both
abbrev pub Apart : List ℕ → List ℕ → Type 0
Apart these those = (place : ℕ) → Has these place → Has those place → ⊥

-- a place put where it belongs among ascending ones
abbrev pub put : ℕ → List ℕ → List ℕ
put place [] = place ∷ []
put place (first ∷ others) = cond (nat_lt place first) (place ∷ first ∷ others) (first ∷ put place others)

-- the places of both, in ascending order where each was
abbrev pub merged : List ℕ → List ℕ → List ℕ
merged these [] = these
merged these (place ∷ those) = merged (put place these) those

-- the longer of two lists, and the other; the first is the longer where they have one length
abbrev pub longer : {E : Type 0} → List E → List E → List E
longer these those = cond (nat_lt (length these) (length those)) those these

abbrev pub shorter : {E : Type 0} → List E → List E → List E
shorter these those = cond (nat_lt (length these) (length those)) these those
