use Rattle.fw_kept_valid.proofs.Settings.{setting_valid}
use Rattle.fw_kept_valid.proofs.laws.setting_keeps_valid.Goals as goal

pub returns : goal.returns
returns c = setting_valid
