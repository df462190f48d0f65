use Rattle.fw_roots_valid.proofs.Members.{set_default_zone_valid}
use Rattle.fw_roots_valid.proofs.laws.set_default_zone_keeps_valid.Goals as goal

pub returns : goal.returns
returns c = set_default_zone_valid
