use Rattle.fw_roots_valid.proofs.Members.{enable_panic_valid}
use Rattle.fw_roots_valid.proofs.laws.enable_panic_keeps_valid.Goals as goal

pub returns : goal.returns
returns c = enable_panic_valid
