use Rattle.fw_config_valid.proofs.Policies.{update_policy}
use Rattle.fw_config_valid.proofs.laws.update_policy_keeps_valid.Goals as goal

pub returns : goal.returns
returns c = update_policy
