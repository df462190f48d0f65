use Rattle.fw_kept_valid.proofs.Members.{inversion_valid}
use Rattle.fw_kept_valid.proofs.laws.inversion_keeps_valid.Goals as goal

pub returns : goal.returns
returns c = inversion_valid
