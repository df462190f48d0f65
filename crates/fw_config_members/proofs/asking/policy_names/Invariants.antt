-- The names so far.
use Rattle.std.proofs.Common.{◌≡◌, take, map}
use Rattle.fw_config_members.proofs.asking.policy_names.Given as goal

abbrev pub invariant-loop-policy : goal.invariant-loop-policy
invariant-loop-policy l = l.names ≡ map (λ policy. policy.name) (take l.policy-index l.policies)
