use Rattle.fw_roots_valid.proofs.Members.{reload_valid}
use Rattle.fw_roots_valid.proofs.laws.reload_keeps_valid.Goals as goal

pub returns : goal.returns
returns c = reload_valid
