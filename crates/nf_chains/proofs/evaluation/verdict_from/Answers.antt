-- What the way tells is the verdict.
use Rattle.std.proofs.Common.{None}
use Rattle.nf_chains.proofs.Outcomes.{verdict_told}
use Rattle.nf_chains.proofs.evaluation.verdict_from.Goals as goal

pub returns : goal.returns
returns g c =
    verdict_told c.args.rules.now c.args.packet.now c.in-Ok.verdict c.of-course.result c.evaluated.new.course None c.evaluated.new.journal c.of-steps.result c.evaluated.new.steps c.requires.sound c.in-Ok.ensures c.of-course.ensures
