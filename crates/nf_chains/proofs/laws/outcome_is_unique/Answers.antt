use Rattle.nf_chains.proofs.Unique.{one_outcome}
use Rattle.nf_chains.proofs.laws.outcome_is_unique.Goals as goal

pub returns : goal.returns
returns c = one_outcome
