-- What the settings are after the edit.
use Rattle.fw_zone_edits.proofs.Plain.{left_out}
use Rattle.fw_zone_edits.proofs.setting.leave_out.Goals as goal

pub returns : goal.returns
returns c =
    left_out c.args.rules.now c.remove.new.rules c.args.setting.now c.remove.result c.remove.ensures.removed c.remove.ensures.absent c.remove.ensures.err
