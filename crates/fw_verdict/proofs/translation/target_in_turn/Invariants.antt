use Rattle.std.proofs.Common.{List, Option, drop}
use Rattle.std.specs.List.{flat_map}
use Rattle.fw_addr.specs.declared.dnat.Dnat.{Dnat}
use Rattle.fw_addr.specs.declared.log.LogLine.{LogLine}
use Rattle.fw_order.specs.Borrowed.{lent}
use Rattle.fw_verdict.specs.Led.{SendsTo}
use Rattle.fw_verdict.specs.Outside.{translation_items}
use Rattle.fw_verdict.proofs.translation.target_in_turn.Given as goal

-- an end from the settings that are left is an end from all
abbrev pub invariant-loop-rules : goal.invariant-loop-rules
invariant-loop-rules l =
    (logs : List LogLine) (found : Option Dnat)
    → SendsTo (flat_map (translation_items l.config) (lent (drop l.rules-index l.settings))) l.packet l.logs logs found
    → SendsTo (flat_map (translation_items l.config) (lent l.settings)) l.packet l.initial.logs logs found
