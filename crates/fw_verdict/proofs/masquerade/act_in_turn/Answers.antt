use Rattle.std.proofs.Common.{false, true}
use Rattle.fw_verdict.specs.Outside.{outside_items}
use Rattle.fw_verdict.specs.declared.outside.Place.TheVariants.{Masquerades}
use Rattle.fw_verdict.proofs.Givers.{masks_behind, masks_here, masks_nothing}
use Rattle.fw_verdict.proofs.masquerade.act_in_turn.Goals as goal

pub returns-then-found : goal.returns-then-found
returns-then-found c =
    c.loop-rule.invariant c.act.new.logs true
    (masks_here (outside_items c.args.config.now Masquerades) c.args.packet.now c.args.rules.now c.loop-rule.rule-index c.rule-item.result _ _ _
    c.loop-rule-test.true c.rule-item.is c.if-found.true c.in_ok-found.ensures)

pub loop-rule-preserved : goal.loop-rule-preserved
loop-rule-preserved c = λ logs found behind.
    c.loop-rule.invariant logs found
    (masks_behind (outside_items c.args.config.now Masquerades) c.args.packet.now c.args.rules.now c.loop-rule.rule-index c.rule-item.result _ _ _ _ _
    c.loop-rule-test.true c.rule-item.is c.if-found.false c.in_ok-found.ensures behind)

pub returns : goal.returns
returns c =
    c.loop-rule.invariant c.loop-rule.logs false
    (masks_nothing (outside_items c.args.config.now Masquerades) c.args.packet.now c.args.rules.now c.loop-rule.rule-index c.loop-rule.logs c.loop-rule-test.false)
