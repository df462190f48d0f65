-- Which journals a daemon may have (this project's own).
use Rattle.std.specs.Prelude.{◌≡◌, ◌↔◌, ◌⊎◌, ℕ, ◌≤◌, List, [], ◌∷◌, ◌++◌, length}
use Rattle.std.specs.List.{Contains}
use Rattle.fw_calls.specs.declared.applied.Applied.TheVariants as applied
use Rattle.fw_calls.specs.declared.event.Entry.{Entry}
use Rattle.fw_calls.specs.declared.event.Event.{Event}
use Rattle.fw_calls.specs.declared.event.Event.TheVariants as event
use Rattle.fw_journal.specs.Journal.{open_sessions}
use Rattle.fw_machine.specs.Machine.{step}
use Rattle.fw_replay.specs.Replay.{replay}
use Rattle.fw_settings.specs.Valid.{last_time}
use Rattle.fw_settings.specs.declared.settings.Settings.{Settings}

-- The session whose event it is: the one that begins has the number of its place in the journal, and each other event names its own.
abbrev pub session_of : (place : ℕ) → Event → ℕ
session_of place event.Open = place
session_of place (event.Call session call) = session
session_of place (event.Tick session now) = session
session_of place (event.Link session up name) = session
session_of place (event.Shut session) = session

-- the session that an event names is among those that are open
abbrev pub IsOfOpen : List ℕ → Event → Type 0
IsOfOpen open_now event.Open = Unit {0}
IsOfOpen open_now (event.Call session call) = Contains open_now session
IsOfOpen open_now (event.Tick session now) = Contains open_now session
IsOfOpen open_now (event.Link session up name) = Contains open_now session
IsOfOpen open_now (event.Shut session) = Contains open_now session

-- a time that is told is no later than times may be
abbrev pub IsInTime : Event → Type 0
IsInTime event.Open = Unit {0}
IsInTime (event.Call session call) = Unit {0}
IsInTime (event.Tick session now) = now ≤ last_time
IsInTime (event.Link session up name) = Unit {0}
IsInTime (event.Shut session) = Unit {0}

-- an event that may come behind entries
pub record MayCome (before : List Entry) (event : Event) : Type 0 where
  pub open_now : IsOfOpen (open_sessions before) event
  pub in_time : IsInTime event

-- An entry that may stand behind others, which left these settings.
pub record IsLegal (now : Settings) (before : List Entry) (entry : Entry) : Type 0 where
  pub session : entry.session ≡ session_of (length before) entry.event
  pub comes : MayCome before entry.event
  -- a save is skipped exactly where the permanent settings stay
  pub save : (entry.save ≡ applied.Skipped) ↔ ((step now entry.event).after.permanent ≡ now.permanent)
  -- a commit, exactly where those in force stay or the save failed
  pub commit : (entry.commit ≡ applied.Skipped) ↔ (((step now entry.event).after.runtime ≡ now.runtime) ⊎ (entry.save ≡ applied.Failed))

-- each entry, behind those before it
unfoldable pub LegalBehind : (first : Settings) → (before : List Entry) → List Entry → Type 0
LegalBehind first before [] = Unit {0}
LegalBehind first before (entry ∷ others) = IsLegal (replay first before) before entry × LegalBehind first (before ++ entry ∷ []) others

abbrev pub Legal : (first : Settings) → List Entry → Type 0
Legal first entries = LegalBehind first [] entries
