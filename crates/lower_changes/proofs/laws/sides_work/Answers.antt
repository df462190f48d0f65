use Rattle.lower_changes.proofs.Working.{sides_work}
use Rattle.lower_changes.proofs.laws.sides_work.Goals as goal

pub returns : goal.returns
returns c = sides_work
