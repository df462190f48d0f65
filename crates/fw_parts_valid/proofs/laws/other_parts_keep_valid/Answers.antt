use Rattle.fw_parts_valid.proofs.Parts.{parts_valid}
use Rattle.fw_parts_valid.proofs.laws.other_parts_keep_valid.Goals as goal

pub returns : goal.returns
returns c = parts_valid
