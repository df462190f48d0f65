use Rattle.fw_roots_valid.proofs.Members.{disable_panic_valid}
use Rattle.fw_roots_valid.proofs.laws.disable_panic_keeps_valid.Goals as goal

pub returns : goal.returns
returns c = disable_panic_valid
