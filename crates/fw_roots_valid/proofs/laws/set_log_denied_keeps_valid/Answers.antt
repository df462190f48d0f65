use Rattle.fw_roots_valid.proofs.Members.{set_log_denied_valid}
use Rattle.fw_roots_valid.proofs.laws.set_log_denied_keeps_valid.Goals as goal

pub returns : goal.returns
returns c = set_log_denied_valid
