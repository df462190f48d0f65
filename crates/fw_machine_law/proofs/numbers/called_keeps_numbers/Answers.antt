use Rattle.fw_machine_law.proofs.Counted.{called_numbers}
use Rattle.fw_machine_law.proofs.numbers.called_keeps_numbers.Goals as goal

pub returns : goal.returns
returns c = called_numbers c.to_permanent_keeps_numbers.ensures
