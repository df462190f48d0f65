use Rattle.std.proofs.Common.{◌≡◌, take}
use Rattle.std.specs.List.{filter}
use Rattle.fw_order.specs.Borrowed.{lent}
use Rattle.fw_verdict.specs.Outside.{stands_at}
use Rattle.fw_verdict.proofs.outside.rules_of.Given as goal

-- the rules of the place among those that were looked at
abbrev pub invariant-loop-rule : goal.invariant-loop-rule
invariant-loop-rule l = lent l.found.items ≡ filter (stands_at l.place) (take l.rule-index l.rules)
