use Rattle.fw_valid_edits.proofs.PolicyEdits.{added_policy}
use Rattle.fw_valid_edits.proofs.policies.added_policy_keeps_valid.Goals as goal

pub returns : goal.returns
returns c = added_policy
