use Rattle.std.proofs.Common.{◌≡◌, take}
use Rattle.std.specs.List.{filter}
use Rattle.fw_order.specs.Borrowed.{lent}
use Rattle.fw_verdict.specs.Rich.{stands_in}
use Rattle.fw_verdict.proofs.rich.rules_of.Given as goal

-- the rules of the part among those that were looked at
abbrev pub invariant-loop-rule : goal.invariant-loop-rule
invariant-loop-rule l = lent l.found.items ≡ filter (stands_in l.part) (take l.rule-index l.rules)
