use Rattle.fw_machine_law.proofs.Stepped.{settled_valid}
use Rattle.fw_machine_law.proofs.machine.settled_keeps_valid.Goals as goal

pub returns : goal.returns
returns c = settled_valid (record { valid = c.step_keeps_valid.ensures; numbers = c.step_keeps_numbers.ensures })
