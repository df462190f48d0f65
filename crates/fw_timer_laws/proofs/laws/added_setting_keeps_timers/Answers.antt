use Rattle.fw_timer_laws.proofs.Timers.{timers_with}
use Rattle.fw_timer_laws.proofs.laws.added_setting_keeps_timers.Goals as goal

pub returns : goal.returns
returns c = timers_with
