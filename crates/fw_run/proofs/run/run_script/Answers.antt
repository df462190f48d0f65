-- A run from its opening to its end.
use Rattle.std.proofs.Common.{List, ℕ, Option}
use Rattle.std.specs.Option.{option_map}
use Rattle.fw_input.specs.Lines.{Judgement, judged}
use Rattle.fw_input.specs.Reading.{outlook}
use Rattle.fw_run.proofs.Turning.{opening, progress-opening}
use Rattle.fw_run.proofs.run.run_script.Goals as goal

pub returns-clause-runs : goal.returns-clause-runs
returns-clause-runs g c =
    let left = g.I.Source.left c.args.input.now in
    let lines : Option Judgement = option_map (judged 1048576 67108864) left in
    let before : Option (List ℕ) = g.O.Sink.written c.args.output.now in
    let all = opening c.new-reader.result 1048576 67108864 left c.new-reader.ensures.ahead c.new-reader.ensures.budget c.new-reader.ensures.line_limit in
    let progress = progress-opening g.M.Machine.step c.args.machine lines (outlook c.new-reader.result left) before c.new-runner.result c.new-runner.ensures all in
    rw c.into_machine.ensures (c.write_rest-ended.ensures.runs c.args.machine lines before (c.run_lines-ended.ensures.stopped c.args.machine lines before progress))
