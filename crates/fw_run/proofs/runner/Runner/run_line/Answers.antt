use Rattle.fw_run.proofs.TurnLemmas.{line-run}
use Rattle.fw_run.proofs.runner.Runner.run_line.Goals as goal

pub returns-in-Ok : goal.returns-in-Ok
returns-in-Ok g c = rw (← c.self.view_is) (line-run g.M.Machine.step _ _ _ _ _ _ c.in-Ok.field-0 c.in-Ok.ensures)
