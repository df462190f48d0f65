use Rattle.fw_updates_valid.proofs.Policies.{set_policy_settings_valid}
use Rattle.fw_updates_valid.proofs.laws.set_policy_settings_keeps_valid.Goals as goal

pub returns : goal.returns
returns c = set_policy_settings_valid
