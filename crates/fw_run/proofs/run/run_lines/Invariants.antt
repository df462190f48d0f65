-- A run that was in its middle at first is in its middle still; each line takes from the budget.
use Rattle.std.proofs.Common.{◌+◌, ◌≤◌, ◌^◌, Option, List, ℕ}
use Rattle.fw_input.specs.Lines.{Judgement}
use Rattle.fw_input.specs.Reading.{outlook}
use Rattle.fw_run.specs.Turns.{Progress}
use Rattle.fw_run.proofs.run.run_lines.Given as goal

abbrev pub invariant-lines : goal.invariant-lines
invariant-lines g l =
    let left = g.I.Source.left in
    let written = g.O.Sink.written in
    record {
      progress : (first : g.row.M.Denot) (lines : Option Judgement) (before : Option (List ℕ)) → Progress g.M.Machine.step first lines before l.fn.runner (outlook l.fn.reader (left l.fn.input)) (written l.fn.output)
          → Progress g.M.Machine.step first lines before l.runner (outlook l.reader (left l.input)) (written l.output);
      number : l.runner.number + l.reader.budget ≤ 2 ^ 62;
      reads : g.I.Source.faults l.fn.input ≤ g.I.Source.faults l.input;
      writes : g.O.Sink.faults l.fn.output ≤ g.O.Sink.faults l.output;
    }

abbrev pub decreases-lines : goal.decreases-lines
decreases-lines g l = l.reader.budget
