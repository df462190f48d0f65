use Rattle.fw_config_valid.proofs.Policies.{add_policy}
use Rattle.fw_config_valid.proofs.laws.add_policy_keeps_valid.Goals as goal

pub returns : goal.returns
returns c = add_policy
