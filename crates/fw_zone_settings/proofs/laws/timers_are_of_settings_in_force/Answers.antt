use Rattle.fw_zone_settings.proofs.Updated.{updated}
use Rattle.fw_zone_settings.proofs.laws.timers_are_of_settings_in_force.Goals as goal

pub returns : goal.returns
returns c = updated
