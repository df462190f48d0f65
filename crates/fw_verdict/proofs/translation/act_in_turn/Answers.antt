use Rattle.std.proofs.Common.{None, sym}
use Rattle.fw_verdict.specs.Led.{forward_rule_items}
use Rattle.fw_verdict.proofs.Givers.{sends_behind, sends_here, sends_nowhere}
use Rattle.fw_verdict.proofs.translation.act_in_turn.Goals as goal

pub returns-then-is_some : goal.returns-then-is_some
returns-then-is_some c =
    c.loop-rule.invariant c.act.new.logs c.in_ok-found.found
    (sends_here (forward_rule_items c.args.config.now) c.args.packet.now c.args.rules.now c.loop-rule.rule-index c.rule-item.result _ _ _
    c.loop-rule-test.true c.rule-item.is (sym c.if-is_some.ensures) c.in_ok-found.ensures)

pub loop-rule-preserved : goal.loop-rule-preserved
loop-rule-preserved c = λ logs found behind.
    c.loop-rule.invariant logs found
    (sends_behind (forward_rule_items c.args.config.now) c.args.packet.now c.args.rules.now c.loop-rule.rule-index c.rule-item.result _ _ _ _ _
    c.loop-rule-test.true c.rule-item.is (sym c.if-is_some.ensures) c.in_ok-found.ensures behind)

pub returns : goal.returns
returns c =
    c.loop-rule.invariant c.loop-rule.logs None
    (sends_nowhere (forward_rule_items c.args.config.now) c.args.packet.now c.args.rules.now c.loop-rule.rule-index c.loop-rule.logs c.loop-rule-test.false)
