use Rattle.nf_chains.proofs.Unique.{one_count}
use Rattle.nf_chains.proofs.laws.visits_are_unique.Goals as goal

pub returns : goal.returns
returns c = one_count
