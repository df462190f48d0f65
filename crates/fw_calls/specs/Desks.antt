-- Desks: where a session is opened, makes its calls and is shut (this project's own).
use Rattle.std.specs.Prelude.{◌≡◌, ℕ, ◌≤◌, List, [], ◌∷◌, ◌++◌, Option, None, Some}
use Rattle.std.specs.List.{All}
use Rattle.fw_calls.specs.declared.call.Call.{Call}
use Rattle.fw_calls.specs.declared.desk.Handled.{Handled}
use Rattle.fw_calls.specs.declared.desk.Handled.TheVariants as handled
use Rattle.fw_calls.specs.declared.event.Event.{Event}
use Rattle.fw_calls.specs.declared.event.Event.TheVariants as event
use Rattle.fw_calls.specs.declared.reply.Reply.{Reply}
use Rattle.fw_calls.specs.declared.signal.Signal.{Signal}

-- a call that was entered: its place in the journal, the signals that were told before its reply, and the reply
pub record Item : Type 0 where
  pub place : ℕ
  pub call : Call
  pub signals : List Signal
  pub reply : Reply

-- what is known of a desk
pub record Standing : Type 0 where
  -- the number of the session that is open
  pub session : Option ℕ
  -- the calls that were entered through the desk
  pub items : List Item
  -- the sessions that were opened through the desk
  pub openings : List ℕ

-- A journal that is too full for an event, as long as the places of the desk's calls say at least.
pub record IsFull (full_at : Event → ℕ → Type 0) (event : Event) (items : List Item) : Type 0 where
  pub entries : ℕ
  pub behind : All (λ (item : Item). item.place ≤ entries) items
  pub full : full_at event entries

-- After a session was opened: it has the number of its place; after another answer all is as before.
abbrev pub Opens : (full_at : Event → ℕ → Type 0) → Handled → (old new : Standing) → Type 0
Opens full_at (handled.Entered place signals reply) old new =
    new ≡ record { session = Some place; items = old.items; openings = old.openings ++ place ∷ [] }
Opens full_at (handled.Full need left) old new = (new ≡ old) × IsFull full_at event.Open old.items
Opens full_at handled.Memory old new = new ≡ old

-- After a call of a session: it is one item more; after another answer all is as before.
abbrev pub Asks : (full_at : Event → ℕ → Type 0) → (session : ℕ) → Call → Handled → (old new : Standing) → Type 0
Asks full_at session call (handled.Entered place signals reply) old new =
    new ≡ record old { items = old.items ++ record { place = place; call = call; signals = signals; reply = reply } ∷ [] }
Asks full_at session call (handled.Full need left) old new = (new ≡ old) × IsFull full_at (event.Call session call) old.items
Asks full_at session call handled.Memory old new = new ≡ old

-- After a session was shut: none is open; after another answer all is as before.
abbrev pub Shuts : (full_at : Event → ℕ → Type 0) → (session : ℕ) → Handled → (old new : Standing) → Type 0
Shuts full_at session (handled.Entered place signals reply) old new = new ≡ record old { session = None }
Shuts full_at session (handled.Full need left) old new = (new ≡ old) × IsFull full_at (event.Shut session) old.items
Shuts full_at session handled.Memory old new = new ≡ old
