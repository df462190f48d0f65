-- Events that may come.
use Rattle.fw_calls.specs.declared.event.Event.{Event}
use Rattle.fw_calls.specs.declared.event.Event.TheVariants as event
use Rattle.fw_machine_law.specs.Ranges.{CanBeTold}
use Rattle.fw_replay.specs.Legal.{IsInTime}

pub can_be_told : (happens : Event) → IsInTime happens → CanBeTold happens
unfolding CanBeTold
can_be_told event.Open is = tt
can_be_told (event.Call session call) is = tt
can_be_told (event.Tick session now) is = is
can_be_told (event.Link session up name) is = tt
can_be_told (event.Shut session) is = tt
