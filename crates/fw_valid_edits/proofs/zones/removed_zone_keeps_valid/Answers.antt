use Rattle.fw_valid_edits.proofs.ZoneEdits.{removed_zone}
use Rattle.fw_valid_edits.proofs.zones.removed_zone_keeps_valid.Goals as goal

pub returns : goal.returns
returns c = removed_zone
