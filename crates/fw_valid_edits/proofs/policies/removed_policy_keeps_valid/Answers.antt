use Rattle.fw_valid_edits.proofs.PolicyEdits.{removed_policy}
use Rattle.fw_valid_edits.proofs.policies.removed_policy_keeps_valid.Goals as goal

pub returns : goal.returns
returns c = removed_policy
