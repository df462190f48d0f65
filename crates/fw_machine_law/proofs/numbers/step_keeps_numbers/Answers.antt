use Rattle.fw_machine_law.proofs.Counted.{step_numbers}
use Rattle.fw_machine_law.proofs.numbers.step_keeps_numbers.Goals as goal

pub returns : goal.returns
returns c = step_numbers c.called_keeps_numbers.ensures
