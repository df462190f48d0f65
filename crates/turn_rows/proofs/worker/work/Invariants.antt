use Rattle.std.proofs.Common.{◌≡◌, false}
use Rattle.turn_core.specs.Places.{Has}
use Rattle.turn_rows.specs.Work.{Keeps}
use Rattle.turn_rows.proofs.worker.work.Given as goal

abbrev pub invariant-loop-number : goal.invariant-loop-number
invariant-loop-number g l = Keeps l.fn.pass l.pass × (l.pass.knows.holds ≡ false) × Has l.pass.knows.mine l.session
