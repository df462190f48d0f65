use Rattle.fw_machine_law.proofs.Stepped.{history_valid}
use Rattle.fw_machine_law.proofs.machine.history_keeps_valid.Goals as goal

pub returns : goal.returns
returns c = history_valid (record { settled_is = c.settled_keeps_valid.ensures })
