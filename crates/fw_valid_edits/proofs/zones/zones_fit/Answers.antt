use Rattle.fw_valid_edits.proofs.ZoneEdits.{zone_beside}
use Rattle.fw_valid_edits.proofs.zones.zones_fit.Goals as goal

pub returns : goal.returns
returns c = zone_beside
