use Rattle.std.proofs.Common.{List, Bool, drop}
use Rattle.std.specs.List.{flat_map}
use Rattle.fw_addr.specs.declared.log.LogLine.{LogLine}
use Rattle.fw_order.specs.Borrowed.{lent}
use Rattle.fw_verdict.specs.Led.{MasksTo}
use Rattle.fw_verdict.specs.Outside.{outside_items}
use Rattle.fw_verdict.specs.declared.outside.Place.TheVariants.{Masquerades}
use Rattle.fw_verdict.proofs.masquerade.act_in_turn.Given as goal

-- an end from the rules that are left is an end from all
abbrev pub invariant-loop-rule : goal.invariant-loop-rule
invariant-loop-rule l =
    (logs : List LogLine) (found : Bool)
    → MasksTo (flat_map (outside_items l.config Masquerades) (lent (drop l.rule-index l.rules))) l.packet l.logs logs found
    → MasksTo (flat_map (outside_items l.config Masquerades) (lent l.rules)) l.packet l.initial.logs logs found
