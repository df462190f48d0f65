use Rattle.fw_machine_law.proofs.Stepped.{step_valid}
use Rattle.fw_machine_law.proofs.machine.step_keeps_valid.Goals as goal

pub returns : goal.returns
returns c = step_valid (record { called_valid = c.called_keeps_valid.ensures; tick = c.tick_keeps_valid.ensures; link = c.link_keeps_valid.ensures })
