use Rattle.fw_config_valid.proofs.Policies.{remove_policy}
use Rattle.fw_config_valid.proofs.laws.remove_policy_keeps_valid.Goals as goal

pub returns : goal.returns
returns c = remove_policy
