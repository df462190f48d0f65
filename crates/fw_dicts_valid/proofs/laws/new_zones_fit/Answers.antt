use Rattle.fw_dicts_valid.proofs.Zones.{new_zone_fits, no_rules_fit}
use Rattle.fw_dicts_valid.proofs.laws.new_zones_fit.Goals as goal

pub returns-clause-zones : goal.returns-clause-zones
returns-clause-zones c = new_zone_fits

pub returns-clause-rules : goal.returns-clause-rules
returns-clause-rules c = no_rules_fit
