use Rattle.lower_changes.proofs.Passing.{postrouting}
use Rattle.lower_changes.proofs.laws.postrouting_changes.Goals as goal

pub returns : goal.returns
returns c = postrouting
