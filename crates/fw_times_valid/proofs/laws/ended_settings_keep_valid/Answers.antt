use Rattle.fw_times_valid.proofs.Ended.{all_ended_valid}
use Rattle.fw_times_valid.proofs.laws.ended_settings_keep_valid.Goals as goal

pub returns : goal.returns
returns c = all_ended_valid
