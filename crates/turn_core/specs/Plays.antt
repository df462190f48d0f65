-- The table's rule, and what each step tells the pass that makes it: of the step, the seat before, the word found and the seat after.
use Rattle.std.specs.Prelude.{◌≡◌, ◌≢◌, ℕ, ◌*◌, ◌%◌, ◌<◌, List, [], ◌∷◌, length, true, false, Some, Option, None}
use mathlib.Core.Option as home
use Rattle.atomic_table.specs.Table.{State, Me, Step}
use Rattle.turn_core.specs.Places.{IsFront}
use Rattle.turn_core.specs.Knowledge.{looked, took, committed, left, knowing, held_word}
use Rattle.turn_core.specs.Passes.{IsSound}
use Rattle.turn_core.specs.History.{History}
use Rattle.turn_core.specs.declared.view.View.{View}

-- what a step tells of the view after it, beside what it changed
abbrev pub Told : {B E : Type 0} → (E → ℕ) → View B E → Type 0
Told session v = IsSound session v.knows × IsFront v.shorter v.knows.seen

module _ {S B E : Type 0} (base_of : S → B) (entries_of : S → List E) (session : E → ℕ) where
  -- the table has one word and one slot, and its history stands
  abbrev pub Keeps : B → State (Option S) (View B E) → Type 0
  Keeps base s = (word : ℕ) × (slot : home.Option (Option S)) × (s.words ≡ word ∷ []) × (s.homes ≡ slot ∷ [])
      × History base_of entries_of session base (record { word = word; slot = slot; views = s.views })

  abbrev pub Seated : Type 0
  Seated = Me (Option S) (View B E)

  -- the word was found, and all else stays
  abbrev pub Looked : Step (Option S) → Seated → ℕ → Seated → Type 0
  Looked st m found n = (n ≡ (knowing m.0 (looked m.0.knows found), m.1)) × Told session n.0

  -- a value was taken, of the same base, whose journal begins with all that was seen and is half as long as the word
  abbrev pub Won : Seated → ℕ → Seated → Type 0
  Won m found n = (value : S) × (n ≡ (knowing m.0 (took m.0.knows found (entries_of value)), (0, Some value) ∷ m.1)) × (m.0.knows.base ≡ Some (base_of value))
      × IsFront m.0.knows.seen (entries_of value) × (found ≡ 2 * length (entries_of value)) × Told session n.0

  -- the turn was taken where the expected word was found; else that word is greater, if the expected one was even and the last that was found
  abbrev pub Tries : Step (Option S) → Seated → ℕ → Seated → Type 0
  Tries st m found n = (found ≡ st.first → Won m found n)
      × (found ≢ st.first → Looked st m found n × (m.0.knows.found ≡ st.first → st.first % 2 ≡ 0 → st.first < found))

  -- the value that the seat had went home with an entry more
  abbrev pub Committed : Step (Option S) → Seated → ℕ → Seated → Type 0
  Committed st m found n = (value : S) → m.1 ≡ (0, Some value) ∷ [] → (n ≡ (knowing m.0 (committed m.0.knows (entries_of value)), [])) × Told session n.0

  -- the value that the seat had went home with the same journal
  abbrev pub Left : Step (Option S) → Seated → ℕ → Seated → Type 0
  Left st m found n = (value : S) → m.1 ≡ (0, Some value) ∷ [] → (n ≡ (knowing m.0 (left m.0.knows), [])) × Told session n.0

  -- the empty slot was taken, while the seat held the turn
  abbrev pub SlotOut : Step (Option S) → Seated → ℕ → Seated → Type 0
  SlotOut st m found n = (n ≡ (record m.0 { knows = looked m.0.knows found; vacant = false }, (0, None) ∷ m.1)) × (found ≡ held_word m.0.knows) × Told session n.0

  -- the empty slot was given back
  abbrev pub SlotIn : Step (Option S) → Seated → ℕ → Seated → Type 0
  SlotIn st m found n = n ≡ (record m.0 { knows = looked m.0.knows found; vacant = true }, [])
