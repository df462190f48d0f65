use Rattle.fw_config_valid.proofs.Zones.{remove_zone}
use Rattle.fw_config_valid.proofs.laws.remove_zone_keeps_valid.Goals as goal

pub returns : goal.returns
returns c = remove_zone
