use Rattle.std.proofs.Common.{false, true}
use Rattle.fw_verdict.specs.Outside.{leaving_items}
use Rattle.fw_verdict.proofs.Givers.{masks_behind, masks_here, masks_nothing}
use Rattle.fw_verdict.proofs.masquerade.masks_in_turn.Goals as goal

pub returns-then-found : goal.returns-then-found
returns-then-found c =
    c.loop-rules.invariant c.masks.new.logs true
    (masks_here (leaving_items c.args.config.now) c.args.packet.now c.args.settings.now c.loop-rules.rules-index c.rules-item.result _ _ _
    c.loop-rules-test.true c.rules-item.is c.if-found.true c.in_ok-found.ensures)

pub loop-rules-preserved : goal.loop-rules-preserved
loop-rules-preserved c = λ logs found behind.
    c.loop-rules.invariant logs found
    (masks_behind (leaving_items c.args.config.now) c.args.packet.now c.args.settings.now c.loop-rules.rules-index c.rules-item.result _ _ _ _ _
    c.loop-rules-test.true c.rules-item.is c.if-found.false c.in_ok-found.ensures behind)

pub returns : goal.returns
returns c =
    c.loop-rules.invariant c.loop-rules.logs false
    (masks_nothing (leaving_items c.args.config.now) c.args.packet.now c.args.settings.now c.loop-rules.rules-index c.loop-rules.logs c.loop-rules-test.false)
