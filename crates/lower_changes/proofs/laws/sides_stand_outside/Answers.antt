use Rattle.lower_changes.proofs.Apart.{stand_outside}
use Rattle.lower_changes.proofs.laws.sides_stand_outside.Goals as goal

pub returns : goal.returns
returns c = stand_outside
