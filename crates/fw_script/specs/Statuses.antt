-- How a status is told outside: the number with which the process ends, and the line on standard error (this
-- project's own).
use Rattle.std.specs.Prelude.{◌≡◌, ℕ, ◌≤◌, ◌⊎◌, codes, decimal, List, [], ◌∷◌, ◌++◌, length, take, Option}
use Rattle.std.specs.Option.{option_map}
use Rattle.fw_base.specs.Causes.{Rose}
use Rattle.fw_run.specs.declared.ended.Ended.{Ended}
use Rattle.fw_run.specs.declared.ended.Ended.TheVariants as ended
use Rattle.fw_script.specs.declared.status.Status.{Status}
use Rattle.fw_script.specs.declared.status.Status.TheVariants as status

abbrev pub exit_number : Status → ℕ
exit_number status.Done = 0
exit_number (status.BadScript line) = 2
exit_number status.ReadFault = 3
exit_number status.WriteFault = 4
exit_number status.InputTooLong = 9
exit_number status.Usage = 64
exit_number status.Memory = 71

-- the line, with its LF; nothing is told of Done
abbrev pub line_text : Status → List ℕ
line_text status.Done = []
line_text (status.BadScript line) = codes "fwd: bad-script " ++ (decimal line ++ 10 ∷ [])
line_text status.ReadFault = codes "fwd: read-fault" ++ 10 ∷ []
line_text status.WriteFault = codes "fwd: write-fault" ++ 10 ∷ []
line_text status.InputTooLong = codes "fwd: input-too-long" ++ 10 ∷ []
line_text status.Usage = codes "fwd: usage" ++ 10 ∷ []
line_text status.Memory = codes "fwd: memory" ++ 10 ∷ []

-- the status of a script's run
abbrev pub status_of : Ended → Status
status_of ended.Done = status.Done
status_of (ended.BadScript line) = status.BadScript line
status_of ended.InputTooLong = status.InputTooLong
status_of ended.ReadFault = status.ReadFault
status_of ended.WriteFault = status.WriteFault
status_of ended.Memory = status.Memory

-- A line was written, or a front of it where a write failed, which was counted.
abbrev pub Tells : (line : List ℕ) → (before after : Option (List ℕ)) → (faults now : ℕ) → Type 0
Tells line before after faults now =
    (after ≡ option_map (λ held. held ++ line) before)
    ⊎ (Rose faults now × ((count : ℕ) × (count ≤ length line) × (after ≡ option_map (λ held. held ++ take count line) before)))
