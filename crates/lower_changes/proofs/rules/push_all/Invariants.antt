-- The jumps of the policies so far were added.
use Rattle.std.proofs.Common.{◌≡◌, ◌++◌, take}
use Rattle.std.specs.List.{flat_map}
use Rattle.fw_order.specs.Borrowed.{lent}
use Rattle.lower_changes.specs.Rules.{policy_jump}
use Rattle.lower_changes.proofs.rules.push_all.Given as goal

abbrev pub invariant-loop-policy : goal.invariant-loop-policy
invariant-loop-policy l = l.rules ≡ l.initial.rules ++ flat_map (policy_jump l.side) (lent (take l.policy-index l.policies))
