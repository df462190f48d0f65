use Rattle.fw_machine.proofs.Free.{quiet_call, quiet_link, quiet_tick}
use Rattle.fw_machine.proofs.machine.step.Goals as goal

pub returns-in-Call-clause-quiet : goal.returns-in-Call-clause-quiet
returns-in-Call-clause-quiet c = quiet_call _ _ c.in-Call.session c.in-Call.call _ c.in-Call.is c.step_call.ensures.quiet

pub returns-in-Tick-clause-quiet : goal.returns-in-Tick-clause-quiet
returns-in-Tick-clause-quiet c = quiet_tick _ _ c.in-Tick.session c.in-Tick.now _ c.in-Tick.is

pub returns-in-Link-clause-quiet : goal.returns-in-Link-clause-quiet
returns-in-Link-clause-quiet c = quiet_link _ _ c.in-Link.session c.in-Link.up c.in-Link.name _ c.in-Link.is
