use Rattle.lower_changes.proofs.Standing.{sides_hold}
use Rattle.lower_changes.proofs.laws.sides_hold.Goals as goal

pub returns : goal.returns
returns c = sides_hold
