use Rattle.lower_blocks.proofs.Acting.{acting_are_told}
use Rattle.lower_blocks.proofs.laws.acting_policies_are_told.Goals as goal

pub returns : goal.returns
returns c = acting_are_told
