use Rattle.fw_machine_law.proofs.Called.{policy_object_calls_valid}
use Rattle.fw_machine_law.proofs.calls.policy_object_called_keeps_valid.Goals as goal

pub returns : goal.returns
returns c = policy_object_calls_valid (record { update = c.update_policy_keeps_valid.ensures; remove = c.remove_policy_keeps_valid.ensures })
