use Rattle.fw_zone_laws.proofs.Zones.{removed_valid}
use Rattle.fw_zone_laws.proofs.laws.removed_setting_keeps_valid.Goals as goal

pub returns : goal.returns
returns c = removed_valid
