use Rattle.fw_updates_valid.proofs.Zones.{set_zone_settings_valid}
use Rattle.fw_updates_valid.proofs.laws.set_zone_settings_keeps_valid.Goals as goal

pub returns : goal.returns
returns c = set_zone_settings_valid
