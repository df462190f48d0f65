use Rattle.fw_kept_valid.proofs.Members.{zone_of_valid}
use Rattle.fw_kept_valid.proofs.laws.zone_of_keeps_valid.Goals as goal

pub returns : goal.returns
returns c = zone_of_valid
