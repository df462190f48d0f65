-- Whether the setting is there, by its test.
use Rattle.fw_zone_edits.proofs.Plain.{has_is}
use Rattle.fw_zone_edits.proofs.setting.has_setting.Goals as goal

pub returns : goal.returns
returns c = has_is c.args.rules.now c.args.setting.now c.has.result c.has.ensures
