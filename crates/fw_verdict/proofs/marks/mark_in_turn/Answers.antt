use Rattle.std.proofs.Common.{◌∙◌, refl}
use Rattle.fw_verdict.specs.Outside.{mark_items}
use Rattle.fw_verdict.proofs.Through.{goes_here, none_left}
use Rattle.fw_verdict.proofs.marks.mark_in_turn.Goals as goal

pub loop-rules-preserved : goal.loop-rules-preserved
loop-rules-preserved c =
    c.loop-rules.invariant
    ∙ goes_here (mark_items c.args.config.now) c.args.settings.now c.loop-rules.rules-index c.rules-item.result _ _
    c.loop-rules-test.true c.rules-item.is refl c.in_ok-marked.ensures.is

pub returns : goal.returns
returns c = record {
  is = c.loop-rules.invariant
      ∙ none_left (mark_items c.args.config.now) c.args.settings.now c.loop-rules.rules-index _ c.loop-rules-test.false;
}
