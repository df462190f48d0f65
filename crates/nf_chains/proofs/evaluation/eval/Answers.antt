-- What the way tells is the outcome and the number of rules.
use Rattle.std.proofs.Common.{Some, ap}
use Rattle.nf_chains.proofs.Outcomes.{eval_told, visits_told}
use Rattle.nf_chains.proofs.evaluation.eval.Goals as goal

pub returns-clause-outcome : goal.returns-clause-outcome
returns-clause-outcome g c =
    eval_told c.args.rules.now c.args.packet.now c.in_ok-verdict.verdict c.of-course.result c.evaluated.new.course (Some c.new.result) c.evaluated.new.journal c.args.steps.now c.evaluated.new.steps c.lines_of.result
    c.requires c.in_ok-verdict.ensures c.of-course.ensures (ap Some c.new.ensures) c.lines_of.ensures

pub returns-clause-visits : goal.returns-clause-visits
returns-clause-visits g c =
    visits_told c.args.rules.now c.args.packet.now c.in_ok-verdict.verdict c.of-course.result c.evaluated.new.course (Some c.new.result) c.evaluated.new.journal c.args.steps.now c.evaluated.new.steps c.requires c.in_ok-verdict.ensures c.of-course.ensures
