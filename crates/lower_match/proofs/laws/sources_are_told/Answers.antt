use Rattle.lower_match.proofs.Stand.{sources_told}
use Rattle.lower_match.proofs.laws.sources_are_told.Goals as goal

pub returns : goal.returns
returns c = sources_told
