use Rattle.fw_valid_edits.proofs.ZoneEdits.{changed_zone}
use Rattle.fw_valid_edits.proofs.zones.changed_zone_keeps_valid.Goals as goal

pub returns : goal.returns
returns c = changed_zone
