use Rattle.fw_zone_laws.proofs.Zones.{added_valid}
use Rattle.fw_zone_laws.proofs.laws.added_setting_keeps_valid.Goals as goal

pub returns : goal.returns
returns c = added_valid
