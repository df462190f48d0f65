-- The names of the policies so far.
use Rattle.std.proofs.Common.{◌≡◌, take, map}
use Rattle.fw_model.specs.declared.policy.Policy.{Policy}
use Rattle.fw_policy_members.proofs.texts.policy_names.Given as goal

abbrev pub invariant-loop-policy : goal.invariant-loop-policy
invariant-loop-policy l = l.names ≡ map (λ (policy : Policy). policy.name) (take l.policy-index l.policies)
