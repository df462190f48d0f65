use Rattle.std.proofs.Common.{refl}
use Rattle.fw_run.proofs.TurnLemmas.{flushed}
use Rattle.fw_run.proofs.runner.Runner.flush.Goals as goal

pub returns-clause-flushes : goal.returns-clause-flushes
returns-clause-flushes g c =
    flushed c.write-written.result _ _ _ _ (rw (← c.self.view_is) (rw c.as_bytes.ensures.value at c.write-written.ensures.writes)) (rw (← c.self.view_is, c.clear.ensures.bytes) refl)
