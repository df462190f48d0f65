use Rattle.fw_machine_law.proofs.Called.{policy_calls_valid}
use Rattle.fw_machine_law.proofs.calls.policy_called_keeps_valid.Goals as goal

pub returns : goal.returns
returns c = policy_calls_valid (record { policy_settings = c.policy_settings_keeps_valid.ensures; set_settings = c.set_policy_settings_keeps_valid.ensures })
