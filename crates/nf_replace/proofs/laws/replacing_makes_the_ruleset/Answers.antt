use Rattle.nf_replace.proofs.Again.{replaces}
use Rattle.nf_replace.proofs.laws.replacing_makes_the_ruleset.Goals as goal

pub returns : goal.returns
returns c = replaces
