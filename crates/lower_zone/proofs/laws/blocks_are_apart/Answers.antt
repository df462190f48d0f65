use Rattle.lower_zone.proofs.Apart.{blocks_apart}
use Rattle.lower_zone.proofs.laws.blocks_are_apart.Goals as goal

pub returns : goal.returns
returns c = blocks_apart
