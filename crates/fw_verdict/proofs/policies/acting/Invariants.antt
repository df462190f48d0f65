use Rattle.std.proofs.Common.{◌≡◌, take}
use Rattle.std.specs.List.{filter}
use Rattle.fw_order.specs.Borrowed.{lent}
use Rattle.fw_verdict.specs.Ends.{end_of}
use Rattle.fw_verdict.specs.Policies.{acts_between}
use Rattle.fw_verdict.proofs.policies.acting.Given as goal

-- the policies that act among those that were looked at
abbrev pub invariant-loop-policy : goal.invariant-loop-policy
invariant-loop-policy l = lent l.found.items ≡ filter (acts_between l.stage (end_of l.from) (end_of l.to)) (take l.policy-index l.policies)
