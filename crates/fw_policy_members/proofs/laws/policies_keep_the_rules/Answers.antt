use Rattle.fw_policy_members.proofs.Allowed.{updated_is_policy}
use Rattle.fw_policy_members.proofs.laws.policies_keep_the_rules.Goals as goal

pub returns : goal.returns
returns c = updated_is_policy
