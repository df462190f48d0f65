-- The journal of a daemon (this project's own): every event that it was asked, in order, with what became of its save and its commit, and
-- what sessions are told of it.
use Rattle.std.specs.Prelude.{ℕ, ◌+◌, ◌==◌, suc, List, [], ◌∷◌, ◌++◌, not}
use Rattle.std.specs.List.{filter}
use Rattle.fw_calls.specs.Weight.{weight}
use Rattle.fw_calls.specs.declared.event.Entry.{Entry}
use Rattle.fw_calls.specs.declared.event.Event.{Event}
use Rattle.fw_calls.specs.declared.event.Event.TheVariants as event
use Rattle.fw_calls.specs.declared.signal.Signal.{Signal}

-- what is seen of a journal
pub record Written : Type 0 where
  pub entries : List Entry
  -- the signals of each entry
  pub told : List (List Signal)
  -- for how many entries more there is room for certain
  pub spare : ℕ

-- The sessions that are open behind an event. One that begins has the number of its place in the journal.
abbrev pub opened : (place : ℕ) → Event → List ℕ → List ℕ
opened place event.Open open_before = open_before ++ place ∷ []
opened place (event.Call session call) open_before = open_before
opened place (event.Tick session now) open_before = open_before
opened place (event.Link session up name) open_before = open_before
opened place (event.Shut session) open_before = filter (λ other. not (other == session)) open_before

-- behind entries that begin at a place
unfoldable pub opened_from : (place : ℕ) → List ℕ → List Entry → List ℕ
opened_from place open_before [] = open_before
opened_from place open_before (entry ∷ others) = opened_from (suc place) (opened place entry.event open_before) others

-- the sessions that are open behind all entries, in the order in which they began
abbrev pub open_sessions : List Entry → List ℕ
open_sessions entries = opened_from 0 [] entries

-- how much the entries weigh together
unfoldable pub weights : List Entry → List (List Signal) → ℕ
weights [] told = 0
weights (entry ∷ entries) [] = 0
weights (entry ∷ entries) (signals ∷ told) = weight entry.event signals + weights entries told

-- the signals of all entries, one after another
unfoldable pub joined : List (List Signal) → List Signal
joined [] = []
joined (signals ∷ told) = signals ++ joined told
