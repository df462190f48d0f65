use Rattle.fw_machine_law.proofs.Called.{zone_object_calls_valid}
use Rattle.fw_machine_law.proofs.calls.zone_object_called_keeps_valid.Goals as goal

pub returns : goal.returns
returns c = zone_object_calls_valid (record { update = c.update_zone_keeps_valid.ensures; remove = c.remove_zone_keeps_valid.ensures })
