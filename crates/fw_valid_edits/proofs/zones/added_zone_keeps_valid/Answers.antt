use Rattle.fw_valid_edits.proofs.ZoneEdits.{added_zone}
use Rattle.fw_valid_edits.proofs.zones.added_zone_keeps_valid.Goals as goal

pub returns : goal.returns
returns c = added_zone
