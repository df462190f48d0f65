use Rattle.fw_times_valid.proofs.Ticks.{tick_valid}
use Rattle.fw_times_valid.proofs.laws.tick_keeps_valid.Goals as goal

pub returns : goal.returns
returns c = tick_valid
