use Rattle.fw_dicts_valid.proofs.Zones.{zone_fits}
use Rattle.fw_dicts_valid.proofs.laws.dicts_make_fit_zones.Goals as goal

pub returns : goal.returns
returns c = zone_fits
