use Rattle.fw_kept_valid.proofs.Members.{zone_settings_valid}
use Rattle.fw_kept_valid.proofs.laws.zone_settings_keeps_valid.Goals as goal

pub returns : goal.returns
returns c = zone_settings_valid
