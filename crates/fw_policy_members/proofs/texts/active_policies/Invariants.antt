-- The policies so far that packets can meet.
use Rattle.std.proofs.Common.{◌≡◌, take, map}
use Rattle.std.specs.List.{filter}
use Rattle.fw_policy_members.specs.Asking.{is_active, sides}
use Rattle.fw_policy_members.proofs.texts.active_policies.Given as goal

abbrev pub invariant-loop-policy : goal.invariant-loop-policy
invariant-loop-policy l = l.found ≡ map sides (filter (is_active l.zones) (take l.policy-index l.policies))
