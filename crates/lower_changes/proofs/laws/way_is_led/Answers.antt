use Rattle.lower_changes.proofs.Whole.{way_is_led}
use Rattle.lower_changes.proofs.laws.way_is_led.Goals as goal

pub returns : goal.returns
returns c = way_is_led
