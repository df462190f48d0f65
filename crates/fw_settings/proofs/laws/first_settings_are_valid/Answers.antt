use Rattle.fw_settings.proofs.Started.{started_is_valid}
use Rattle.fw_settings.proofs.laws.first_settings_are_valid.Goals as goal

pub returns : goal.returns
returns c = started_is_valid
