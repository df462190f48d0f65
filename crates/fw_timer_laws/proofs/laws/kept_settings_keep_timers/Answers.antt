use Rattle.fw_timer_laws.proofs.Held.{timers_stay}
use Rattle.fw_timer_laws.proofs.laws.kept_settings_keep_timers.Goals as goal

pub returns : goal.returns
returns c = timers_stay
