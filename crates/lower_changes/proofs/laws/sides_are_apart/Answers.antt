use Rattle.lower_changes.proofs.Apart.{sides_apart}
use Rattle.lower_changes.proofs.laws.sides_are_apart.Goals as goal

pub returns : goal.returns
returns c = sides_apart
