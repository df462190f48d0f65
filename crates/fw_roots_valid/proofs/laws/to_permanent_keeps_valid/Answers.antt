use Rattle.fw_roots_valid.proofs.Permanent.{to_permanent_valid}
use Rattle.fw_roots_valid.proofs.laws.to_permanent_keeps_valid.Goals as goal

pub returns : goal.returns
returns c = to_permanent_valid
