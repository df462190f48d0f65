use Rattle.fw_valid_edits.proofs.PolicyEdits.{changed_policy}
use Rattle.fw_valid_edits.proofs.policies.changed_policy_keeps_valid.Goals as goal

pub returns : goal.returns
returns c = changed_policy
