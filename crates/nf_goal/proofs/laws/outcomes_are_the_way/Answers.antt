use Rattle.fw_verdict.specs.Way.{way}
use Rattle.nf_goal.proofs.laws.outcomes_are_the_way.Goals as goal

pub returns : goal.returns
returns c = λ rules runtime compiles packet is_packet outcome eval.
    c.outcome_is_unique.ensures rules packet outcome (way runtime packet) eval (compiles.outcomes packet is_packet)
