-- The chains of the policies so far came behind the others.
use Rattle.std.proofs.Common.{take}
use Rattle.std.specs.List.{flat_map}
use Rattle.fw_model.specs.declared.policy.Policy.{Policy}
use Rattle.fw_order.specs.Borrowed.{lent}
use Rattle.fw_valid.specs.Each.{Each}
use Rattle.fw_valid.specs.Valid.{AreWritten}
use Rattle.lower_changes.specs.Blocks.{Behind}
use Rattle.lower_changes.specs.Needed.{told_policy}
use Rattle.lower_changes.proofs.blocks.push_policies.Given as goal

abbrev pub invariant-loop-policy : goal.invariant-loop-policy
invariant-loop-policy l =
    Each (λ (policy : Policy). AreWritten policy.rules) l.policies
    → Behind l.config l.side (flat_map (told_policy l.side (lent l.zones)) (take l.policy-index l.policies)) l.initial.chains l.chains
