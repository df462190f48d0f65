-- The history of the turn: what holds between any two steps of any passes.
use Rattle.std.specs.Prelude.{◌≡◌, ℕ, ◌+◌, ◌*◌, ◌/◌, ◌%◌, ◌<◌, ◌≤◌, ◌≢◌, ◌⊎◌, ◌↔◌, List, [], ◌∷◌, length, cond, true, Some, slice_get}
use Rattle.std.specs.Prelude as std
use mathlib.Core.Option.{Option, some}
use lib.ListN.{get_elem?}
use Rattle.turn_core.specs.Places.{IsFront, Has, Ascending, Apart}
use Rattle.turn_core.specs.Knowledge.{all_parts, spent}
use Rattle.turn_core.specs.declared.view.View.{View}

-- the sum over all views
abbrev pub total : {A : Type 0} → (A → ℕ) → List A → ℕ
total f [] = 0
total f (first ∷ others) = f first + total f others

-- The word, the slot and the views at one moment. The slot is out with a pass (`none`), or at home with a value or empty.
pub record Moment (S B E : Type 0) : Type 0 where
  pub word : ℕ
  pub slot : Option (std.Option S)
  pub views : List (View B E)

module _ {B E : Type 0} where
  -- the parts of all views; a view that is spent has none
  abbrev pub PartsOf : List (View B E) → ℕ
  PartsOf = total (λ v. v.knows.parts)

  -- how many views hold the turn
  abbrev pub HoldersOf : List (View B E) → ℕ
  HoldersOf = total (λ v. cond v.knows.holds 1 0)

  -- what holds of each view beside a history
  pub record Fits (session : E → ℕ) (base : B) (history : List E) (v : View B E) : Type 0 where
    -- a view that isn't spent has the base and at least one part
    pub lives : (v ≡ spent) ⊎ ((v.knows.base ≡ Some base) × (0 < v.knows.parts))
    -- what was seen is a front of the history
    pub front : IsFront v.knows.seen history
    -- a view that holds the turn has seen the whole history
    pub holder : v.knows.holds ≡ true → v.knows.seen ≡ history
    -- its places are ascending, and are places of what was seen
    pub ascending : Ascending v.knows.mine
    pub within : (place : ℕ) → Has v.knows.mine place → place < length v.knows.seen
    -- an entry's place is its own exactly where the place of that entry's opening is
    pub sessions : (place : ℕ) (entry : E) → slice_get history place ≡ Some entry → Has v.knows.mine place ↔ Has v.knows.mine (session entry)
    -- half of each word that it has found is at most the number of entries
    pub found : v.knows.found / 2 ≤ length history
    pub found_before : v.knows.found_before / 2 ≤ length history
    -- the shorter of the two fronts that were last put together begins what was seen
    pub shorter : IsFront v.shorter v.knows.seen

  -- the slot is at home, with a value of this base whose journal is the history
  abbrev pub AtHome : {S : Type 0} → (S → B) → (S → List E) → B → List E → Option (std.Option S) → Type 0
  AtHome {S} base_of entries_of base history slot = (value : S) × (slot ≡ some (Some value)) × (base_of value ≡ base) × (entries_of value ≡ history)

  pub record History {S : Type 0} (base_of : S → B) (entries_of : S → List E) (session : E → ℕ) (base : B) (m : Moment S B E) : Type 0 where
    -- the one history
    pub history : List E
    -- While the word is even, it is twice the number of entries, no view holds the turn, and the value at home is the history's
    pub even : m.word % 2 ≡ 0 → (m.word ≡ 2 * length history) × (HoldersOf m.views ≡ 0) × AtHome base_of entries_of base history m.slot
    -- while it is odd, it is one more than that, and exactly one view holds the turn
    pub odd : m.word % 2 ≡ 1 → (m.word ≡ 2 * length history + 1) × (HoldersOf m.views ≡ 1)
    -- a view may hold the turn while the slot is at home, empty
    pub vacant : (i : ℕ) (v : View B E) → get_elem? m.views i ≡ some v → v.vacant ≡ true → (v.knows.holds ≡ true) × (m.slot ≡ some std.None)
    -- each view fits the history
    pub each : (i : ℕ) (v : View B E) → get_elem? m.views i ≡ some v → Fits session base history v
    -- two views share no place
    pub apart : (i j : ℕ) (v u : View B E) → i ≢ j → get_elem? m.views i ≡ some v → get_elem? m.views j ≡ some u → Apart v.knows.mine u.knows.mine
    -- no entry comes before its session's opening
    pub opened : (place : ℕ) (entry : E) → slice_get history place ≡ Some entry → session entry ≤ place
    -- every place of the history is some view's
    pub covered : (place : ℕ) → place < length history → (i : ℕ) × (v : View B E) × (get_elem? m.views i ≡ some v) × Has v.knows.mine place
    -- no part is lost
    pub parts : PartsOf m.views ≡ all_parts
