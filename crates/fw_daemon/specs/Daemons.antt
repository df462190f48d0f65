-- The daemon in one thread (this project's own): what is seen of it, what holds of it whenever no call on it runs, and what a call leaves.
use Rattle.std.specs.Prelude.{◌≡◌, ℕ, ◌+◌, ◌-◌, ◌^◌, ◌<◌, ◌≤◌, min, List, [], ◌∷◌, length, None, IfSome}
use Rattle.fw_calls.specs.declared.applied.Applied.{Applied}
use Rattle.fw_calls.specs.declared.applied.Applied.TheVariants as applied
use Rattle.fw_calls.specs.declared.desk.Handled.{Handled}
use Rattle.fw_calls.specs.declared.desk.Handled.TheVariants as handled
use Rattle.fw_calls.specs.declared.event.Entry.{Entry}
use Rattle.fw_calls.specs.declared.event.Event.{Event}
use Rattle.fw_calls.specs.declared.reply.Reply.{Reply}
use Rattle.fw_calls.specs.declared.signal.Signal.{Signal}
use Rattle.fw_daemon.specs.Outside.{Holds, IsInstalledAs, IsKeptAs}
use Rattle.fw_history.specs.History.{IsEntered, IsHistory, IsSame, Recorded, left, needed}
use Rattle.fw_keeper.specs.Kept.{Kept}
use Rattle.fw_model.specs.declared.runtime.Runtime.{Runtime}
use Rattle.nf_goal.specs.Compiles.{Compiles}
use Rattle.nf_kernel.specs.Installed.{Kernel}
use Rattle.nf_rules.specs.declared.ruleset.Ruleset.{Ruleset}

-- the most calls of a keeper, and commits of a kernel, before the daemon begins
abbrev pub most_before : ℕ
most_before = 2 ^ 61

-- what is seen of a daemon
pub record Served (B K C : Type 0) : Type 0 where
  pub backend : B
  pub keeper : K
  pub compiler : C
  pub history : Recorded
  -- the faults that were counted when it began
  pub backend_faults : ℕ
  pub keeper_faults : ℕ

-- how many entries have a result that failed
abbrev pub failed : Applied → ℕ
failed applied.Skipped = 0
failed applied.Done = 0
failed applied.Failed = 1

unfoldable pub failures : (Entry → Applied) → List Entry → ℕ
failures result_of [] = 0
failures result_of (entry ∷ entries) = failed (result_of entry) + failures result_of entries

-- So many faults, at least, were counted since. A count at the end of its 64 bits stays there.
abbrev pub Counted : (first count now : ℕ) → Type 0
Counted first count now = min (first + count) (2 ^ 64 - 1) ≤ now

-- What holds of a daemon, over what is seen of its kernel and its keeper and over the rulesets that its compiler makes.
pub record Sound {B K C : Type 0} (kernel : B → Kernel) (kept : K → Kept) (makes : C → Runtime → Ruleset → Type 0) (daemon : Served B K C) : Type 0 where
  -- the settings are those that the journal leaves of the first ones
  pub history : IsHistory daemon.history
  -- the ruleset that is installed is one that the compiler makes of the settings in force
  pub made : makes daemon.compiler daemon.history.settings.runtime (kernel daemon.backend).installed
  -- and does with every packet what they say
  pub compiles : Compiles (kernel daemon.backend).installed daemon.history.settings.runtime
  pub staged : (kernel daemon.backend).staged ≡ None
  -- what is kept is the permanent settings
  pub text : IfSome (kept daemon.keeper).held (λ held. Holds held daemon.history.settings.permanent)
  -- each commit and each save that failed is a fault of the kernel's and of the keeper's own
  pub commits_failed : Counted daemon.backend_faults (failures (λ entry. entry.commit) daemon.history.journal.entries) (kernel daemon.backend).faults
  pub saves_failed : Counted daemon.keeper_faults (failures (λ entry. entry.save) daemon.history.journal.entries) (kept daemon.keeper).faults
  -- no more was asked of them than one commit and one call each for the beginning and for each entry
  pub asked : (kernel daemon.backend).asked ≤ most_before + 1 + length daemon.history.journal.entries
  pub calls : (kept daemon.keeper).calls ≤ most_before + 1 + length daemon.history.journal.entries

-- Nothing has changed but for more room.
pub record Stays {B K C : Type 0} (kernel : B → Kernel) (kept : K → Kept) (old new : Served B K C) : Type 0 where
  pub history : IsSame old.history new.history
  pub kernel_is : kernel new.backend ≡ kernel old.backend
  pub keeper_is : kept new.keeper ≡ kept old.keeper
  pub compiler_is : new.compiler ≡ old.compiler
  pub backend_faults_are : new.backend_faults ≡ old.backend_faults
  pub keeper_faults_are : new.keeper_faults ≡ old.keeper_faults

-- An event was entered: one entry more, which has the event and what became of its save and its commit, of which each was tried exactly where it
-- isn't skipped, the save first.
pub record IsHandled {B K C : Type 0} (kernel : B → Kernel) (kept : K → Kept) (old new : Served B K C) (event : Event) (from place : ℕ) (signals : List Signal) (reply : Reply) : Type 0 where
  pub save : Applied
  pub commit : Applied
  pub entered : IsEntered old.history new.history event from save commit place signals reply
  pub saves : IsKeptAs (kept old.keeper) (kept new.keeper) save
  pub commits : IsInstalledAs (kernel old.backend) (kernel new.backend) commit
  pub compiler_is : new.compiler ≡ old.compiler
  pub backend_faults_are : new.backend_faults ≡ old.backend_faults
  pub keeper_faults_are : new.keeper_faults ≡ old.keeper_faults

-- What became of an event, whose session was told of all entries before the place `from`.
abbrev pub Handles : {B K C : Type 0} (kernel : B → Kernel) (kept : K → Kept) (old new : Served B K C) → Event → (from : ℕ) → Handled → Type 0
Handles kernel kept old new event from (handled.Entered place signals reply) = IsHandled kernel kept old new event from place signals reply
Handles kernel kept old new event from (handled.Full need room) =
    Stays kernel kept old new × (need ≡ needed old.history event) × (room ≡ left old.history) × (room < need)
Handles kernel kept old new event from handled.Memory = Stays kernel kept old new

-- it was entered
abbrev pub IsEnteredAs : Handled → Type 0
IsEnteredAs (handled.Entered place signals reply) = Unit {0}
IsEnteredAs (handled.Full need room) = ⊥
IsEnteredAs handled.Memory = ⊥
