use Rattle.std.proofs.Common.{◌≡◌, take}
use Rattle.std.specs.List.{filter}
use Rattle.std.specs.Option.{option_copied}
use Rattle.fw_order.specs.Borrowed.{lent}
use Rattle.fw_verdict.specs.Sides.{is_beside}
use Rattle.fw_verdict.proofs.sides.beside.Given as goal

-- the policies that take part among those that were looked at
abbrev pub invariant-loop-policy : goal.invariant-loop-policy
invariant-loop-policy l = lent l.found.items ≡ filter (is_beside l.side l.stage (option_copied l.zone)) (take l.policy-index l.policies)
