-- The steps of the forwarded ports so far were added.
use Rattle.std.proofs.Common.{map, take}
use Rattle.fw_valid.specs.Each.{Each}
use Rattle.fw_valid.specs.Rules.{IsPlainForward}
use Rattle.fw_verdict.specs.Outside.{port_item}
use Rattle.lower_outside.specs.Steps.{Tell}
use Rattle.lower_outside.proofs.settings.push_ports.Given as goal

abbrev pub invariant-loop-forward : goal.invariant-loop-forward
invariant-loop-forward l =
    Each IsPlainForward l.forwards → Tell l.config (map (port_item l.config) (take l.forward-index l.forwards)) l.initial.steps l.steps
