use Rattle.std.proofs.Common.{List, Option, drop}
use Rattle.std.specs.List.{flat_map}
use Rattle.fw_addr.specs.declared.log.LogLine.{LogLine}
use Rattle.fw_model.specs.declared.outcome.Verdict.{Verdict}
use Rattle.fw_order.specs.Borrowed.{lent}
use Rattle.fw_verdict.specs.Given.{Walks}
use Rattle.fw_verdict.specs.Rich.{rule_items}
use Rattle.fw_verdict.specs.Walk.{walk}
use Rattle.fw_verdict.proofs.rich.act_in_turn.Given as goal

-- an end from the rules that are left is an end from all
abbrev pub invariant-loop-rule : goal.invariant-loop-rule
invariant-loop-rule l =
    (logs : List LogLine) (decided : Option Verdict)
    → Walks (walk (flat_map (rule_items l.config l.part) (lent (drop l.rule-index l.rules))) l.packet) l.logs logs decided
    → Walks (walk (flat_map (rule_items l.config l.part) (lent l.rules)) l.packet) l.initial.logs logs decided
