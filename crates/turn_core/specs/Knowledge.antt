-- What a pass knows, and how each kind of step changes it.
use Rattle.std.specs.Prelude.{ℕ, ◌+◌, ◌*◌, ◌/◌, ◌^◌, List, [], ◌∷◌, ◌++◌, length, None, Some, false, true}
use Rattle.turn_core.specs.Places.{merged, longer, shorter}
use Rattle.turn_core.specs.declared.view.Knowledge.{Knowledge}
use Rattle.turn_core.specs.declared.view.View.{View}

-- all parts of a turn
abbrev pub all_parts : ℕ
all_parts = 2 ^ 100

module _ {B E : Type 0} where
  -- the first pass of a turn: it holds the turn over the empty history and has all parts
  abbrev pub opened : B → Knowledge B E
  opened base = record { base = Some base; seen = []; mine = []; holds = true; parts = all_parts; steps = 0; takes = 0; found = 0; found_before = 0 }

  -- what is left of a pass that was joined into another
  abbrev pub nothing : Knowledge B E
  nothing = record { base = None; seen = []; mine = []; holds = false; parts = 0; steps = 0; takes = 0; found = 0; found_before = 0 }

  -- a step on the word was made, and the word found
  abbrev pub looked : Knowledge B E → ℕ → Knowledge B E
  looked k word = record k { steps = k.steps + 1; found = word; found_before = k.found }

  -- the turn was taken at this word, with this journal
  abbrev pub took : Knowledge B E → ℕ → List E → Knowledge B E
  took k word journal = record (looked k word) { seen = journal; holds = true; takes = k.takes + 1 }

  -- the word while the pass holds the turn
  abbrev pub held_word : Knowledge B E → ℕ
  held_word k = 2 * length k.seen + 1

  -- an entry was added at the end of what was seen, which is now this journal, and the turn was given up
  abbrev pub committed : Knowledge B E → List E → Knowledge B E
  committed k journal = record (looked k (held_word k)) { seen = journal; mine = k.mine ++ length k.seen ∷ []; holds = false }

  -- the turn was given up with nothing added
  abbrev pub left : Knowledge B E → Knowledge B E
  left k = record (looked k (held_word k)) { holds = false }

  -- half of the parts are kept
  abbrev pub halved : Knowledge B E → Knowledge B E
  halved k = record k { parts = k.parts / 2 }

  -- a new pass with as much seen, no place, and half of the parts
  abbrev pub split_off : Knowledge B E → Knowledge B E
  split_off k = record { base = k.base; seen = k.seen; mine = []; holds = false; parts = k.parts / 2; steps = 0; takes = 0; found = 0; found_before = 0 }

  -- the longer of what both have seen, the places of both, and the parts of both
  abbrev pub joined : Knowledge B E → Knowledge B E → Knowledge B E
  joined k other = record k { seen = longer k.seen other.seen; mine = merged k.mine other.mine; parts = k.parts + other.parts }

  abbrev pub plain : Knowledge B E → View B E
  plain k = record { knows = k; vacant = false; shorter = [] }

  -- the view of a pass with other knowledge
  abbrev pub knowing : View B E → Knowledge B E → View B E
  knowing v k = record v { knows = k }

  -- the view of no pass any more
  abbrev pub spent : View B E
  spent = plain nothing

  -- the first view
  abbrev pub first_view : B → View B E
  first_view base = record (plain (opened base)) { vacant = true }

  -- what a pass keeps of its view when another is split off, and the view of the other
  abbrev pub kept_view : View B E → View B E
  kept_view v = knowing v (halved v.knows)

  abbrev pub new_view : View B E → View B E
  new_view v = plain (split_off v.knows)

  -- the view of two passes that became one
  abbrev pub joined_view : View B E → View B E → View B E
  joined_view v other = record v { knows = joined v.knows other.knows; shorter = shorter v.knows.seen other.knows.seen }
