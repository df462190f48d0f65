use Rattle.fw_timer_laws.proofs.Timers.{timers_without}
use Rattle.fw_timer_laws.proofs.laws.removed_setting_keeps_timers.Goals as goal

pub returns : goal.returns
returns c = timers_without
