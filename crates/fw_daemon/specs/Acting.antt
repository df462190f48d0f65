-- What carrying an event out leaves (this project's own).
use Rattle.std.specs.Prelude.{◌≡◌, ◌↔◌, ◌⊎◌, ℕ, List, Bool, true, false, Option, None, Some}
use Rattle.fw_calls.specs.declared.applied.Applied.{Applied}
use Rattle.fw_calls.specs.declared.applied.Applied.TheVariants as applied
use Rattle.fw_calls.specs.declared.event.Event.{Event}
use Rattle.fw_calls.specs.declared.reply.Reply.{Reply}
use Rattle.fw_calls.specs.declared.signal.Signal.{Signal}
use Rattle.fw_daemon.specs.Outside.{IsCommittedTo, IsSaved}
use Rattle.fw_history.specs.History.{IsEntered, Recorded}
use Rattle.fw_keeper.specs.Kept.{Kept}
use Rattle.nf_kernel.specs.Installed.{Kernel, with_staged}
use Rattle.nf_kernel.specs.declared.kernel.Ready.{Ready}

-- The text was saved, where there is one; what was staged was committed, where a commit is needed and the save didn't fail; and the event is entered
-- with what became of these.
pub record IsCarriedOut (old new : Recorded) (kernel later : Kernel) (kept later_kept : Kept) (event : Event) (text : Option (List ℕ)) (needs_commit : Bool)
    (from place : ℕ) (signals : List Signal) (reply : Reply) : Type 0 where
  pub save : Applied
  pub commit : Applied
  pub entered : IsEntered old new event from save commit place signals reply
  pub saved : IsSaved text kept later_kept save
  pub skipped : (commit ≡ applied.Skipped) ↔ ((needs_commit ≡ false) ⊎ (save ≡ applied.Failed))
  pub committed : needs_commit ≡ true → (ready : Ready) (before : Kernel) → before.staged ≡ None → kernel ≡ with_staged (Some ready) before
      → IsCommittedTo ready.after before later commit
  pub idle : needs_commit ≡ false → later ≡ kernel
