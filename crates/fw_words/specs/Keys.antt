-- What follows a key, such as `src=`, at the front of a word.
use Rattle.std.specs.Prelude.{ℕ, ◌==◌, if◌then◌else◌, List, [], ◌∷◌, map, Option, None, Some}
use Rattle.std.specs.Borrow.{Bor}
use Rattle.std.specs.List.{filter_map}

abbrev pub after_key : (key word : List ℕ) → Option (List ℕ)
after_key [] word = Some word
after_key (first ∷ key) [] = None
after_key (first ∷ key) (byte ∷ word) = if byte == first then after_key key word else None

-- the values of the words with a key, in order
abbrev pub values : (key : List ℕ) → List (List ℕ) → List (List ℕ)
values key words = filter_map (after_key key) words

-- what there is at most one of
abbrev pub at_most_one : {X : Type 0} → List X → Option (Option X)
at_most_one [] = Some None
at_most_one (x ∷ []) = Some (Some x)
at_most_one (x ∷ y ∷ xs) = None

-- what there is exactly one of
abbrev pub only : {X : Type 0} → List X → Option X
only [] = None
only (x ∷ []) = Some x
only (x ∷ y ∷ xs) = None

-- what references to texts point to
abbrev pub texts : List (Bor (List ℕ)) → List (List ℕ)
texts words = map (λ word. word.now) words
