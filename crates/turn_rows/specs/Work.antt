-- What a pass keeps while it works.
use Rattle.std.specs.Prelude.{◌≡◌, ℕ, ◌+◌, ◌<◌, length, Some, false, true}
use Rattle.turn_core.specs.Places.{Has}
use Rattle.turn_core.specs.Knowledge.{all_parts}
use Rattle.turn_core.specs.Passes.{Opening, Knowing}
use Rattle.turn_rows.specs.declared.journal.Entry.{Entry}
use Rattle.turn_rows.specs.declared.journal.Journal.{Journal}

-- a pass of a journal
abbrev pub Known : Type 0
Known = Knowing ℕ Entry

-- it is of the same turn and base, has the same parts, and has lost no place
pub record Keeps (old new : Known) : Type 0 where
  pub turn : new.turn ≡ old.turn
  pub base : new.knows.base ≡ old.knows.base
  pub parts : new.knows.parts ≡ old.knows.parts
  pub mine : (place : ℕ) → Has old.knows.mine place → Has new.knows.mine place

-- it is of the turn and the base of the first, and has the parts of both, and the places of the first
pub record Joins (first second new : Known) : Type 0 where
  pub turn : new.turn ≡ first.turn
  pub base : new.knows.base ≡ first.knows.base
  pub parts : new.knows.parts ≡ first.knows.parts + second.knows.parts
  pub mine : (place : ℕ) → Has first.knows.mine place → Has new.knows.mine place
  pub free : new.knows.holds ≡ false

-- it has the turn, with this journal
pub record Holds (pass : Known) (journal : Journal) : Type 0 where
  pub holds : pass.knows.holds ≡ true
  pub base : pass.knows.base ≡ Some journal.name
  pub seen : pass.knows.seen ≡ journal.entries.items

-- every entry of the journal stands at a place of the pass's own
abbrev pub HasAll : Known → Journal → Type 0
HasAll pass journal = (place : ℕ) → place < length journal.entries.items → Has pass.knows.mine place

-- a pass of this turn with all parts, which has no place and doesn't hold the turn
pub record IsFresh (turn : Opening ℕ) (pass : Known) : Type 0 where
  pub same : pass.turn ≡ turn.turn
  pub base : pass.knows.base ≡ Some turn.base
  pub parts : pass.knows.parts ≡ all_parts
  pub free : pass.knows.holds ≡ false
