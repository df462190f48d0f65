use Rattle.std.proofs.Common.{None, sym}
use Rattle.fw_verdict.specs.Outside.{translation_items}
use Rattle.fw_verdict.proofs.Givers.{sends_behind, sends_here, sends_nowhere}
use Rattle.fw_verdict.proofs.translation.target_in_turn.Goals as goal

pub returns-then-is_some : goal.returns-then-is_some
returns-then-is_some c =
    c.loop-rules.invariant c.target_by_settings.new.logs c.in_ok-found.found
    (sends_here (translation_items c.args.config.now) c.args.packet.now c.args.settings.now c.loop-rules.rules-index c.rules-item.result _ _ _
    c.loop-rules-test.true c.rules-item.is (sym c.if-is_some.ensures) c.in_ok-found.ensures)

pub loop-rules-preserved : goal.loop-rules-preserved
loop-rules-preserved c = λ logs found behind.
    c.loop-rules.invariant logs found
    (sends_behind (translation_items c.args.config.now) c.args.packet.now c.args.settings.now c.loop-rules.rules-index c.rules-item.result _ _ _ _ _
    c.loop-rules-test.true c.rules-item.is (sym c.if-is_some.ensures) c.in_ok-found.ensures behind)

pub returns : goal.returns
returns c =
    c.loop-rules.invariant c.loop-rules.logs None
    (sends_nowhere (translation_items c.args.config.now) c.args.packet.now c.args.settings.now c.loop-rules.rules-index c.loop-rules.logs c.loop-rules-test.false)
