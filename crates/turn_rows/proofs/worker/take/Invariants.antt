use Rattle.std.proofs.Common.{◌≡◌, false}
use Rattle.turn_rows.specs.Work.{Keeps}
use Rattle.turn_rows.proofs.worker.take.Given as goal

abbrev pub invariant-loop : goal.invariant-loop
invariant-loop g l =
    (goal.iterator-loop g).can_next l.iterator' × (goal.iterator-loop g).is_finite l.iterator' × Keeps l.initial.pass l.pass × (l.pass.knows.holds ≡ false)
