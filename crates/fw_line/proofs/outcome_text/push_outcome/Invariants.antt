-- The log lines so far stand behind the outcome's line.
use Rattle.std.proofs.Common.{◌≡◌, ◌++◌, take}
use Rattle.std.specs.String.{string_bytes}
use Rattle.std.specs.List.{flat_map}
use Rattle.fw_line.specs.OutcomeText.{log_line, outcome_line}
use Rattle.fw_line.proofs.outcome_text.push_outcome.Given as goal

abbrev pub invariant-loop-line : goal.invariant-loop-line
invariant-loop-line l = string_bytes l.out ≡ string_bytes l.fn.out ++ (outcome_line l.outcome ++ flat_map log_line (take l.line-index l.line-items))
