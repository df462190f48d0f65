use Rattle.fw_machine_law.proofs.Called.{config_calls_valid}
use Rattle.fw_machine_law.proofs.calls.config_called_keeps_valid.Goals as goal

pub returns : goal.returns
returns c = config_calls_valid (record { add_zone = c.add_zone_keeps_valid.ensures; add_policy = c.add_policy_keeps_valid.ensures })
