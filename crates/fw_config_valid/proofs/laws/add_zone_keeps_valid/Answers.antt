use Rattle.fw_config_valid.proofs.Zones.{add_zone}
use Rattle.fw_config_valid.proofs.laws.add_zone_keeps_valid.Goals as goal

pub returns : goal.returns
returns c = add_zone
