use Rattle.lower_hooks.specs.Listed.{policy_rules}
use Rattle.lower_hooks.proofs.Lists.{added_more}
use Rattle.lower_hooks.proofs.policies.push_all.Goals as goal

pub loop-policy-preserved : goal.loop-policy-preserved
loop-policy-preserved c =
    added_more policy_rules c.args.policies.now c.loop-policy.policy-index c.policy-item.result c.args.rules.now _ _ c.loop-policy-test.true c.policy-item.is
    c.loop-policy.invariant c.in_ok-push_policy.ensures
