-- What contracts see of a turn and of a pass, and what each call does to a pass.
use Rattle.std.specs.Prelude.{◌≡◌, ℕ, ◌*◌, ◌%◌, ◌<◌, ◌≤◌, ◌⊎◌, ◌↔◌, List, [], ◌∷◌, ◌++◌, length, Some, slice_get}
use Rattle.atomic_table.specs.Seated.{TableId}
use Rattle.turn_core.specs.Places.{IsFront, Has, Ascending, Apart}
use Rattle.turn_core.specs.Knowledge.{all_parts, looked, took, joined}
use Rattle.turn_core.specs.declared.view.Knowledge.{Knowledge}
use Rattle.turn_core.specs.declared.tried.Tried.{Tried}
use Rattle.turn_core.specs.declared.tried.Tried.TheVariants.{Held, Busy}

-- a turn, as what tells it from others and the base of its value
pub record Opening (B : Type 0) : Type 0 where
  pub turn : TableId
  pub base : B

-- a pass, as the turn that it is of, and what it knows
pub record Knowing (B E : Type 0) : Type 0 where
  pub turn : TableId
  pub knows : Knowledge B E

-- what holds of every pass by itself
pub record IsSound {B E : Type 0} (session : E → ℕ) (k : Knowledge B E) : Type 0 where
  -- it has at least one part, and at most all
  pub part : 0 < k.parts
  pub at_most : k.parts ≤ all_parts
  -- its places are ascending, and are places of what it has seen
  pub ascending : Ascending k.mine
  pub within : (place : ℕ) → Has k.mine place → place < length k.seen
  -- an entry that it has seen is its own exactly where the opening of the entry's session is
  pub sessions : (place : ℕ) (entry : E) → slice_get k.seen place ≡ Some entry → Has k.mine place ↔ Has k.mine (session entry)
  -- with all parts, every place is its own
  pub whole : k.parts ≡ all_parts → (place : ℕ) → place < length k.seen → Has k.mine place

-- the places are those that there were, and this one
abbrev pub Gains : List ℕ → ℕ → List ℕ → Type 0
Gains old new_place new = (place : ℕ) → Has new place ↔ (Has old place ⊎ (place ≡ new_place))

abbrev pub IfHeld : {S : Type 0} → Tried S → (S → Type 0) → Type 0
IfHeld (Held state) P = P state
IfHeld (Busy word) P = Unit {0}

abbrev pub IfBusy : {S : Type 0} → Tried S → (ℕ → Type 0) → Type 0
IfBusy (Held state) P = Unit {0}
IfBusy (Busy word) P = P word

module _ {B E : Type 0} where
  -- The turn was taken: the state has the pass's base, and its journal begins with all that was seen. It is the whole history, since the word was twice its length; both steps found that word.
  pub record HasTaken {S : Type 0} (base_of : S → B) (entries_of : S → List E) (old : Knowledge B E) (state : S) (new : Knowledge B E) : Type 0 where
    pub base : old.base ≡ Some (base_of state)
    pub front : IsFront old.seen (entries_of state)
    pub now : let word = 2 * length (entries_of state) in new ≡ took (looked old word) word (entries_of state)

  -- The turn wasn't taken: the last step of the call found this word, and it is odd, or the step before it found a smaller even word.
  abbrev pub HasFailed : Knowledge B E → ℕ → Knowledge B E → Type 0
  HasFailed old word new = ((word % 2 ≡ 1) × (new ≡ looked old word)) ⊎ ((before : ℕ) × (before % 2 ≡ 0) × (before < word) × (new ≡ looked (looked old before) word))

  -- the journal has one entry more than what was seen, which opens its session or is of one whose opening is the pass's own
  abbrev pub Adds : (E → ℕ) → Knowledge B E → List E → Type 0
  Adds session k journal = (entry : E) × (journal ≡ k.seen ++ entry ∷ []) × ((session entry ≡ length k.seen) ⊎ Has k.mine (session entry))

  -- Two passes became one, which has made one more step: it has seen what the longer front has, which begins with both; the two shared no place, and their places are its own.
  pub record HasJoined (old other new : Knowledge B E) : Type 0 where
    pub now : (word : ℕ) × (new ≡ looked (joined old other) word)
    pub front : IsFront old.seen new.seen
    pub other_front : IsFront other.seen new.seen
    pub apart : Apart old.mine other.mine
    pub places : (place : ℕ) → Has new.mine place ↔ (Has old.mine place ⊎ Has other.mine place)
