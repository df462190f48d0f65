use Rattle.lower_changes.proofs.Apart.{chains_apart}
use Rattle.lower_changes.proofs.laws.chains_are_apart.Goals as goal

pub returns : goal.returns
returns c = chains_apart
