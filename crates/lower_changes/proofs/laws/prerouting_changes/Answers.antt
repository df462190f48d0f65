use Rattle.lower_changes.proofs.Passing.{prerouting}
use Rattle.lower_changes.proofs.laws.prerouting_changes.Goals as goal

pub returns : goal.returns
returns c = prerouting
