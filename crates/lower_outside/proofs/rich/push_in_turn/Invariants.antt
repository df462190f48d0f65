-- The steps of the rules so far were added.
use Rattle.std.proofs.Common.{take}
use Rattle.std.specs.List.{flat_map}
use Rattle.fw_order.specs.Borrowed.{lent}
use Rattle.fw_valid.specs.Each.{Each}
use Rattle.fw_valid.specs.Riches.{IsRich}
use Rattle.fw_verdict.specs.Outside.{outside_items}
use Rattle.lower_outside.specs.Steps.{Tell}
use Rattle.lower_outside.proofs.rich.push_in_turn.Given as goal

abbrev pub invariant-loop-rule : goal.invariant-loop-rule
invariant-loop-rule l =
    Each IsRich (lent l.ordered) → Tell l.config (flat_map (outside_items l.config l.place) (lent (take l.rule-index l.ordered))) l.initial.steps l.steps
