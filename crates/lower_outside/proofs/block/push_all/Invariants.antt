-- The rules of the steps so far were added, and chains of names of their own.
use Rattle.std.proofs.Common.{List}
use Rattle.fw_model.specs.declared.config.Config.{Config}
use Rattle.fw_verdict.specs.Changes.{ChangeItem}
use Rattle.lower_outside.specs.Steps.{AreTold}
use Rattle.lower_outside.specs.Work.{Adds, AreNamed}
use Rattle.lower_outside.proofs.block.push_all.Given as goal

abbrev pub invariant-loop-step : goal.invariant-loop-step
invariant-loop-step l =
    ((config : Config) (items : List ChangeItem) → AreTold config l.yielded items → Adds config items l.fn.rules l.rules l.fn.chains l.chains)
    × (AreNamed l.side l.block l.fn.chains → AreNamed l.side l.block l.chains)
