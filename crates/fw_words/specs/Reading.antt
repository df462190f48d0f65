-- Reading the words of a line one after another.
use Rattle.std.specs.Prelude.{◌≡◌, ℕ, List, [], ◌∷◌, Option, None, Some, Result, Ok, Err}
use Rattle.fw_words.specs.declared.error.LineError.{LineError}
use Rattle.fw_words.specs.declared.error.LineError.TheVariants as error

-- what was read, and the words that are left
abbrev pub Read : Type 0 → Type 0
Read X = X × List (List ℕ)

-- the next word
abbrev pub next : List (List ℕ) → Option (Read (List ℕ))
next [] = None
next (word ∷ words) = Some (word, words)

-- what is said where no word is left
abbrev pub at_end : {X : Type 0} → X → List (List ℕ) → Option X
at_end said [] = Some said
at_end said (word ∷ words) = None

-- A reading that was refused: for want of memory alone, or since nothing is said.
abbrev pub Refuses : {X : Type 0} → LineError → Option X → Type 0
Refuses error.BadLine said = said ≡ None
Refuses error.Memory said = Unit {0}

-- A reading: what is said, a refusal exactly where nothing is, or want of memory.
abbrev pub Says : {X : Type 0} → Result X LineError → Option X → Type 0
Says (Ok x) said = said ≡ Some x
Says (Err e) said = Refuses e said

-- The same of a reading that goes on behind what was read.
abbrev pub Reads : {X : Type 0} → Result X LineError → (left : List (List ℕ)) → Option (Read X) → Type 0
Reads (Ok x) left said = said ≡ Some (x, left)
Reads (Err e) left said = Refuses e said
