use Rattle.fw_config_valid.proofs.Zones.{update_zone}
use Rattle.fw_config_valid.proofs.laws.update_zone_keeps_valid.Goals as goal

pub returns : goal.returns
returns c = update_zone
