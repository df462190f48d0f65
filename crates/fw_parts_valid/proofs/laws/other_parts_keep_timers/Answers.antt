use Rattle.fw_parts_valid.proofs.Parts.{parts_timed}
use Rattle.fw_parts_valid.proofs.laws.other_parts_keep_timers.Goals as goal

pub returns : goal.returns
returns c = parts_timed
