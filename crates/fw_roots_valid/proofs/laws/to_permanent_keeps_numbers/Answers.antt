use Rattle.fw_roots_valid.proofs.Permanent.{to_permanent_numbers}
use Rattle.fw_roots_valid.proofs.laws.to_permanent_keeps_numbers.Goals as goal

pub returns : goal.returns
returns c = to_permanent_numbers
