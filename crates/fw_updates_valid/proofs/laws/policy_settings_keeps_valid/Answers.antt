use Rattle.fw_updates_valid.proofs.Policies.{policy_settings_valid}
use Rattle.fw_updates_valid.proofs.laws.policy_settings_keeps_valid.Goals as goal

pub returns : goal.returns
returns c = policy_settings_valid
