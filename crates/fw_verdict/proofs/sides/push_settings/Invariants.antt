use Rattle.std.proofs.Common.{◌≡◌, ◌++◌, take}
use Rattle.fw_order.specs.Borrowed.{lent}
use Rattle.fw_verdict.specs.Led.{policy_settings}
use Rattle.fw_verdict.proofs.sides.push_settings.Given as goal

-- the settings of the policies that were looked at have come
abbrev pub invariant-loop-policy : goal.invariant-loop-policy
invariant-loop-policy l = lent l.settings.items ≡ lent l.initial.settings.items ++ policy_settings (lent (take l.policy-index l.policies))
