-- The history of the settings: those that there were first, what happened since, and those that there are (this project's own).
use Rattle.std.specs.Prelude.{◌≡◌, ◌↔◌, ◌⊎◌, ℕ, ◌+◌, ◌-◌, ◌^◌, ◌<◌, ◌≤◌, List, [], ◌∷◌, ◌++◌, length, drop, take, Bool, false}
use Rattle.fw_calls.specs.Weight.{weight}
use Rattle.fw_calls.specs.declared.applied.Applied.{Applied}
use Rattle.fw_calls.specs.declared.applied.Applied.TheVariants as applied
use Rattle.fw_calls.specs.declared.event.Entry.{Entry}
use Rattle.fw_calls.specs.declared.event.Event.{Event}
use Rattle.fw_calls.specs.declared.reply.Reply.{Reply}
use Rattle.fw_calls.specs.declared.signal.Signal.{Signal}
use Rattle.fw_history.specs.declared.plan.Unplanned.{Unplanned}
use Rattle.fw_history.specs.declared.plan.Unplanned.TheVariants as unplanned
use Rattle.fw_journal.specs.Journal.{Written, joined, weights}
use Rattle.fw_machine.specs.Machine.{step}
use Rattle.fw_model.specs.declared.config.Config.{Config}
use Rattle.fw_proposals.specs.Proposals.{Proposes}
use Rattle.fw_replay.specs.Legal.{Legal, session_of}
use Rattle.fw_replay.specs.Replay.{played, replay, signals_of}
use Rattle.fw_settings.specs.Starting.{started}
use Rattle.fw_settings.specs.Valid.{AreValid}
use Rattle.fw_settings.specs.declared.proposal.Proposal.{Proposal}
use Rattle.fw_settings.specs.declared.settings.Settings.{Settings}

-- the most that a journal may weigh
abbrev pub highest_limit : ℕ
highest_limit = 2 ^ 40

-- what is seen of a history
pub record Recorded : Type 0 where
  -- the permanent settings with which it begins
  pub first : Config
  -- the settings that there are
  pub settings : Settings
  pub journal : Written
  -- how much its entries may weigh together
  pub limit : ℕ

-- The journal is legal, and the settings are those that it leaves; what is told of each entry is what the entry says; and it weighs no more than it may.
pub record IsHistory (history : Recorded) : Type 0 where
  pub settings : history.settings ≡ replay (started history.first) history.journal.entries
  pub told : history.journal.told ≡ signals_of (started history.first) history.journal.entries
  pub legal : Legal (started history.first) history.journal.entries
  pub valid : AreValid history.settings
  pub limit : history.limit ≤ highest_limit
  pub weight : weights history.journal.entries history.journal.told ≤ history.limit

-- All is as before, but for more room.
pub record IsSame (old new : Recorded) : Type 0 where
  pub first : new.first ≡ old.first
  pub settings : new.settings ≡ old.settings
  pub entries : new.journal.entries ≡ old.journal.entries
  pub told : new.journal.told ≡ old.journal.told
  pub limit : new.limit ≡ old.limit
  pub spare : old.journal.spare ≤ new.journal.spare

-- what an event weighs where nothing of it fails, and for how much there is room
abbrev pub needed : Recorded → Event → ℕ
needed history event = weight event (step history.settings event).signals

abbrev pub left : Recorded → ℕ
left history = history.limit - weights history.journal.entries history.journal.told

-- All that an event needs is there: what is to be done, and what its session is told where nothing fails, behind what it wasn't told yet.
pub record IsPlanned (history : Recorded) (event : Event) (from : ℕ) (proposal : Proposal) (told : List Signal) (earlier : ℕ) : Type 0 where
  pub proposes : Proposes history.settings (step history.settings event) proposal
  pub told_is : told ≡ joined (drop from history.journal.told) ++ proposal.signals
  pub earlier_is : earlier ≡ length (joined (drop from history.journal.told))
  pub fits : needed history event ≤ left history

-- the same, by what its session wasn't told yet, and for how much there is room
pub record IsPlannedBehind (settings : Settings) (event : Event) (behind : List Signal) (room : ℕ) (proposal : Proposal) (told : List Signal) (earlier : ℕ) : Type 0 where
  pub proposes : Proposes settings (step settings event) proposal
  pub told_is : told ≡ behind ++ proposal.signals
  pub earlier_is : earlier ≡ length behind
  pub fits : weight event (step settings event).signals ≤ room

-- Why an event isn't planned: it weighs more than there is room for. Want of memory says nothing.
abbrev pub IsFullOf : (wanted room : ℕ) → Unplanned → Type 0
IsFullOf wanted room (unplanned.Full need left) = (need ≡ wanted) × (left ≡ room) × (room < wanted)
IsFullOf wanted room unplanned.Memory = Unit {0}

abbrev pub IsFull : Recorded → Event → Unplanned → Type 0
IsFull history event why = IsFullOf (needed history event) (left history) why

-- what is told where nothing fails, or of a failure
abbrev pub told_where : List Signal → (earlier : ℕ) → (save commit : Applied) → List Signal
told_where told earlier applied.Failed commit = take earlier told
told_where told earlier applied.Skipped applied.Failed = take earlier told
told_where told earlier applied.Done applied.Failed = take earlier told
told_where told earlier applied.Skipped applied.Skipped = told
told_where told earlier applied.Skipped applied.Done = told
told_where told earlier applied.Done applied.Skipped = told
told_where told earlier applied.Done applied.Done = told

-- A save is skipped exactly where none is needed, and a commit exactly where none is or the save failed.
pub record AreResults (needs_save needs_commit : Bool) (save commit : Applied) : Type 0 where
  pub saved : (save ≡ applied.Skipped) ↔ (needs_save ≡ false)
  pub committed : (commit ≡ applied.Skipped) ↔ ((needs_commit ≡ false) ⊎ (save ≡ applied.Failed))

-- One entry more, which has this event and these results.
abbrev pub entry_of : List Entry → Event → (save commit : Applied) → Entry
entry_of entries event save commit = record { session = session_of (length entries) event; event = event; save = save; commit = commit }

-- It was entered: the settings are those that it leaves, and its session is told what it wasn't told yet, up to it, and its reply.
pub record IsEntered (old new : Recorded) (event : Event) (from : ℕ) (save commit : Applied) (place : ℕ) (signals : List Signal) (reply : Reply) : Type 0 where
  pub place_is : place ≡ length old.journal.entries
  pub entries : new.journal.entries ≡ old.journal.entries ++ entry_of old.journal.entries event save commit ∷ []
  pub settings : new.settings ≡ (played old.settings (entry_of old.journal.entries event save commit)).settings
  pub told : new.journal.told ≡ old.journal.told ++ (played old.settings (entry_of old.journal.entries event save commit)).signals ∷ []
  pub signals_are : signals ≡ joined (drop from new.journal.told)
  pub reply_is : reply ≡ (played old.settings (entry_of old.journal.entries event save commit)).reply
  pub first : new.first ≡ old.first
  pub limit : new.limit ≡ old.limit
  pub spare : old.journal.spare ≤ new.journal.spare + 1
