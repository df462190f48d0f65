use Rattle.std.proofs.Common.{List, Option, drop}
use Rattle.std.specs.List.{flat_map}
use Rattle.fw_addr.specs.declared.dnat.Dnat.{Dnat}
use Rattle.fw_addr.specs.declared.log.LogLine.{LogLine}
use Rattle.fw_order.specs.Borrowed.{lent}
use Rattle.fw_verdict.specs.Led.{SendsTo, forward_rule_items}
use Rattle.fw_verdict.proofs.translation.act_in_turn.Given as goal

-- an end from the rules that are left is an end from all
abbrev pub invariant-loop-rule : goal.invariant-loop-rule
invariant-loop-rule l =
    (logs : List LogLine) (found : Option Dnat)
    → SendsTo (flat_map (forward_rule_items l.config) (lent (drop l.rule-index l.rules))) l.packet l.logs logs found
    → SendsTo (flat_map (forward_rule_items l.config) (lent l.rules)) l.packet l.initial.logs logs found
