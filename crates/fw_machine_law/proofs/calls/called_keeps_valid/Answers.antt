use Rattle.fw_machine_law.proofs.Called.{calls_valid}
use Rattle.fw_machine_law.proofs.calls.called_keeps_valid.Goals as goal

pub returns : goal.returns
returns c =
    calls_valid (record {
      zone = c.zone_called_keeps_valid.ensures;
      policy = c.policy_called_keeps_valid.ensures;
      ipset = c.ipset_keeps_valid.ensures;
      root = c.root_called_keeps_valid.ensures;
      config = c.config_called_keeps_valid.ensures;
      zone_object = c.zone_object_called_keeps_valid.ensures;
      policy_object = c.policy_object_called_keeps_valid.ensures;
    })
