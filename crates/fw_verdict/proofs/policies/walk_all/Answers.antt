use Rattle.std.proofs.Common.{sym, None}
use Rattle.fw_verdict.proofs.PolicyLists.{ends_behind, ends_here, goes_on_here}
use Rattle.fw_verdict.proofs.Zones.{none}
use Rattle.fw_verdict.proofs.policies.walk_all.Goals as goal

pub returns-then-is_some : goal.returns-then-is_some
returns-then-is_some c =
    c.loop-policy.invariant c.walk_policy.new.logs c.in_ok-decided.decided
    (ends_here c.args.config.now c.args.packet.now c.args.policies.now c.loop-policy.policy-index c.policy-item.result _ _ _
    c.loop-policy-test.true c.policy-item.is (sym c.if-is_some.ensures) c.in_ok-decided.ensures)

pub loop-policy-preserved : goal.loop-policy-preserved
loop-policy-preserved c = λ logs decided behind.
    c.loop-policy.invariant logs decided
    (goes_on_here c.args.config.now c.args.packet.now c.args.policies.now c.loop-policy.policy-index c.policy-item.result _ _ _ _
    c.loop-policy-test.true c.policy-item.is (none _ _ _ _ (sym c.if-is_some.ensures) c.in_ok-decided.ensures) behind)

pub returns : goal.returns
returns c =
    c.loop-policy.invariant c.loop-policy.logs None
    (ends_behind c.args.config.now c.args.packet.now c.args.policies.now c.loop-policy.policy-index c.loop-policy.logs c.loop-policy-test.false)
