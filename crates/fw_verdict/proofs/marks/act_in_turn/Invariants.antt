use Rattle.std.proofs.Common.{◌≡◌, None, drop}
use Rattle.std.specs.List.{flat_map}
use Rattle.fw_order.specs.Borrowed.{lent}
use Rattle.fw_verdict.specs.Changes.{through, with_mark}
use Rattle.fw_verdict.specs.Led.{standing}
use Rattle.fw_verdict.specs.Outside.{outside_items}
use Rattle.fw_verdict.specs.declared.outside.Place.TheVariants.{Marks}
use Rattle.fw_verdict.proofs.marks.act_in_turn.Given as goal

-- what the rules that are left make of the mark so far is what all make of the first one
abbrev pub invariant-loop-rule : goal.invariant-loop-rule
invariant-loop-rule l =
    through (flat_map (outside_items l.config Marks) (lent l.rules)) (standing (with_mark l.mark l.packet) None l.initial.logs)
    ≡ through (flat_map (outside_items l.config Marks) (lent (drop l.rule-index l.rules))) (standing (with_mark l.marked l.packet) None l.logs)
