-- What a run of the program comes to.
use Rattle.std.specs.Prelude.{◌≡◌, ℕ, List, Option}
use Rattle.fw_firewall.specs.Script.{State, first_state, step}
use Rattle.fw_input.specs.Lines.{Judgement}
use Rattle.fw_run.specs.Endings.{Runs}
use Rattle.fw_run.specs.declared.ended.Ended.{Ended}
use Rattle.fw_run.specs.declared.ended.Ended.TheVariants as ended
use Rattle.fw_script.specs.Statuses.{status_of}
use Rattle.fw_script.specs.declared.status.Status.{Status}

-- a line is at most 1,048,576 bytes long, and an input 67,108,864
abbrev pub line_limit : ℕ
line_limit = 1048576

abbrev pub input_limit : ℕ
input_limit = 67108864

-- What an end tells and its count of faults are as before.
abbrev pub IsUntouched : (before after : Option (List ℕ)) → (faults now : ℕ) → Type 0
IsUntouched before after faults now = (after ≡ before) × (now ≡ faults)

-- Some first lines of the input ran, from the built-in settings on, and ended so; what they printed was written.
pub record HasRun (told : Status) (input : Option Judgement) (before after : Option (List ℕ)) : Type 0 where
  pub ended : Ended
  pub last : State
  pub status : told ≡ status_of ended
  pub runs : Runs step first_state ended input before after last
