-- The kinds of step. Each changes the word and the slot as said, and the own view of the pass that makes it: here the view `v`, which is the i-th.
use Rattle.std.specs.Prelude.{◌≡◌, ◌≢◌, ℕ, ◌+◌, ◌-◌, ◌/◌, ◌%◌, ◌<◌, ◌⊎◌, List, [], ◌∷◌, ◌++◌, set, true, false, Some}
use Rattle.std.specs.Prelude as std
use mathlib.Core.Option.{none, some}
use lib.ListN.{get_elem?}
use Rattle.turn_core.specs.Knowledge.{looked, took, committed, left, knowing, kept_view, new_view, joined_view, spent, first_view}
use Rattle.turn_core.specs.Passes.{Adds}
use Rattle.turn_core.specs.History.{Moment}
use Rattle.turn_core.specs.declared.view.View.{View}

module _ {S B E : Type 0} (m : Moment S B E) (i : ℕ) (v : View B E) where
  -- the i-th view is v, which isn't spent
  abbrev pub Own : Type 0
  Own = (get_elem? m.views i ≡ some v) × (0 < v.knows.parts)

  -- load: all stays, the step is counted, and the word found
  abbrev pub load : Moment S B E
  load = record m { views = set m.views i (knowing v (looked v.knows m.word)) }

  -- take: the word is one more, the slot goes out, and the view has seen the journal of the value that lay there
  abbrev pub take : List E → Moment S B E
  take journal = record { word = m.word + 1; slot = none; views = set m.views i (knowing v (took v.knows m.word journal)) }

  -- failed take: as a load
  abbrev pub failed_take : Moment S B E
  failed_take = load

  -- value out of the slot: the pass has the slot, and hands the value in it to its caller, so nothing changes here
  abbrev pub value_out : Moment S B E
  value_out = m

  -- value into the slot: the caller hands the value back, and nothing changes here either
  abbrev pub value_in : Moment S B E
  value_in = m

  -- commit: the word is one more, the slot comes home with the value, and the view gains its last place and holds no more
  abbrev pub commit : S → List E → Moment S B E
  commit value journal = record { word = m.word + 1; slot = some (Some value); views = set m.views i (knowing v (committed v.knows journal)) }

  -- leave: the word is one less, the slot comes home with the value, and the view holds no more
  abbrev pub leave : S → Moment S B E
  leave value = record { word = m.word - 1; slot = some (Some value); views = set m.views i (knowing v (left v.knows)) }

  -- the empty slot goes out with the view that holds the turn, at the opening
  abbrev pub slot_out : Moment S B E
  slot_out = record { word = m.word; slot = none; views = set m.views i (record v { knows = looked v.knows m.word; vacant = false }) }

  -- and comes home empty, at the close
  abbrev pub slot_in : Moment S B E
  slot_in = record { word = m.word; slot = some std.None; views = set m.views i (record v { knows = looked v.knows m.word; vacant = true }) }

  -- split: the word is loaded, the view keeps half of the parts, and a new view has the other half
  abbrev pub split : Moment S B E
  split = record m { views = set m.views i (kept_view v) ++ new_view v ∷ [] }

  -- join: the word is loaded, the view has what both had, and the other, the j-th, is spent
  abbrev pub join : ℕ → View B E → Moment S B E
  join j other = record m { views = set (set m.views i (joined_view v other)) j spent }

-- the view holds the turn, and its pass has the slot
abbrev pub Full : {B E : Type 0} → View B E → Type 0
Full v = (v.knows.holds ≡ true) × (v.vacant ≡ false)

-- The number of entries, which is half of the word, stays; or an entry takes its place, as the word goes from odd to even by one.
abbrev pub IsEventOrNone : {S B E : Type 0} → Moment S B E → Moment S B E → Type 0
IsEventOrNone m n = (n.word / 2 ≡ m.word / 2) ⊎ ((m.word % 2 ≡ 1) × (n.word ≡ m.word + 1))

module _ {S B E : Type 0} (base_of : S → B) (entries_of : S → List E) (session : E → ℕ) (base : B) where
  -- the table at the opening: the word is 1, the slot is empty, and one view holds the turn over the empty history and has all parts
  abbrev pub opening_moment : Moment S B E
  opening_moment = record { word = 1; slot = some std.None; views = first_view base ∷ [] }

  -- what a pass may do at a moment, and the moment after it
  pub data Step (m n : Moment S B E) : Type 0 where
    loads : (i : ℕ) (v : View B E) → Own m i v → n ≡ load m i v → Step m n
    takes : (i : ℕ) (v : View B E) (value : S) → Own m i v → v.knows.holds ≡ false → m.word % 2 ≡ 0 → m.slot ≡ some (Some value) → n ≡ take m i v (entries_of value) → Step m n
    fails : (i : ℕ) (v : View B E) → Own m i v → n ≡ failed_take m i v → Step m n
    hands_out : (i : ℕ) (v : View B E) → Own m i v → Full v → n ≡ value_out m i v → Step m n
    hands_back : (i : ℕ) (v : View B E) → Own m i v → Full v → n ≡ value_in m i v → Step m n
    commits : (i : ℕ) (v : View B E) (value : S) → Own m i v → Full v → base_of value ≡ base → Adds session v.knows (entries_of value) → n ≡ commit m i v value (entries_of value) → Step m n
    leaves : (i : ℕ) (v : View B E) (value : S) → Own m i v → Full v → base_of value ≡ base → entries_of value ≡ v.knows.seen → n ≡ leave m i v value → Step m n
    goes_out : (i : ℕ) (v : View B E) → Own m i v → v.vacant ≡ true → n ≡ slot_out m i v → Step m n
    comes_home : (i : ℕ) (v : View B E) → Own m i v → v.knows.holds ≡ true → n ≡ slot_in m i v → Step m n
    splits : (i : ℕ) (v : View B E) → Own m i v → v.knows.holds ≡ false → v.knows.parts % 2 ≡ 0 → n ≡ split m i v → Step m n
    joins : (i j : ℕ) (v other : View B E) → Own m i v → Own m j other → j ≢ i → v.knows.holds ≡ false → other.knows.holds ≡ false → v.vacant ≡ false → n ≡ join m i v j other → Step m n
