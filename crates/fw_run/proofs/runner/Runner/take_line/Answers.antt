use Rattle.fw_run.proofs.TurnLemmas.{taken}
use Rattle.fw_run.proofs.runner.Runner.take_line.Goals as goal

pub returns-in-Line-clause-takes : goal.returns-in-Line-clause-takes
returns-in-Line-clause-takes g c = taken g.M.Machine.step c.run_line.result c.line.result.now _ _ _ _ (rw c.line.ensures c.in-Line.ensures.judged) c.run_line.ensures
