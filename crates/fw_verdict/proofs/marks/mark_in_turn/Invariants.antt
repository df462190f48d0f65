use Rattle.std.proofs.Common.{◌≡◌, None, drop}
use Rattle.std.specs.List.{flat_map}
use Rattle.fw_order.specs.Borrowed.{lent}
use Rattle.fw_verdict.specs.Changes.{through, with_mark}
use Rattle.fw_verdict.specs.Led.{standing}
use Rattle.fw_verdict.specs.Outside.{mark_items}
use Rattle.fw_verdict.proofs.marks.mark_in_turn.Given as goal

-- what the settings that are left make of the mark so far is what all make of the first one
abbrev pub invariant-loop-rules : goal.invariant-loop-rules
invariant-loop-rules l =
    through (flat_map (mark_items l.config) (lent l.settings)) (standing (with_mark l.mark l.packet) None l.initial.logs)
    ≡ through (flat_map (mark_items l.config) (lent (drop l.rules-index l.settings))) (standing (with_mark l.marked l.packet) None l.logs)
