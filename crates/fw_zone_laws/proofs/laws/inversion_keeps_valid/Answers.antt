use Rattle.fw_zone_laws.proofs.Zones.{inversion_changed}
use Rattle.fw_zone_laws.proofs.laws.inversion_keeps_valid.Goals as goal

pub returns : goal.returns
returns c = inversion_changed
