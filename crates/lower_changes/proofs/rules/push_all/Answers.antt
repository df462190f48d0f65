use Rattle.lower_changes.specs.Rules.{policy_jump}
use Rattle.lower_changes.proofs.Growing.{added_more}
use Rattle.lower_changes.proofs.rules.push_all.Goals as goal

pub loop-policy-preserved : goal.loop-policy-preserved
loop-policy-preserved c =
    added_more (policy_jump c.args.side) c.args.policies.now c.loop-policy.policy-index c.policy-item.result c.args.rules.now _ _ c.loop-policy-test.true c.policy-item.is
    c.loop-policy.invariant c.in_ok-push_policy.ensures
