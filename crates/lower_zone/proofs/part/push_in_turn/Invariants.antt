-- What the rules so far do was added.
use Rattle.std.proofs.Common.{ℕ, take}
use Rattle.std.specs.List.{flat_map}
use Rattle.fw_order.specs.Borrowed.{lent}
use Rattle.fw_verdict.specs.Rich.{rule_items}
use Rattle.fw_verdict.specs.Walk.{walk}
use Rattle.lower_zone.specs.Work.{Adds, AreNamed}
use Rattle.lower_zone.proofs.part.push_in_turn.Given as goal

abbrev pub invariant-loop-rule : goal.invariant-loop-rule
invariant-loop-rule l =
    (Adds l.config (walk (flat_map (rule_items l.config l.part) (lent (take l.rule-index l.ordered)))) l.initial.rules l.rules l.initial.chains l.chains)
    × ((parts : ℕ) → AreNamed l.block parts l.initial.chains → AreNamed l.block parts l.chains)
