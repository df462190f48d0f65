use Rattle.fw_valid_edits.proofs.PolicyEdits.{policy_there}
use Rattle.fw_valid_edits.proofs.policies.policies_fit.Goals as goal

pub returns : goal.returns
returns c = policy_there
