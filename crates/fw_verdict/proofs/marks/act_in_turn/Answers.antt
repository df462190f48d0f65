use Rattle.std.proofs.Common.{◌∙◌, refl}
use Rattle.fw_verdict.specs.Outside.{outside_items}
use Rattle.fw_verdict.specs.declared.outside.Place.TheVariants.{Marks}
use Rattle.fw_verdict.proofs.Through.{goes_here, none_left}
use Rattle.fw_verdict.proofs.marks.act_in_turn.Goals as goal

pub loop-rule-preserved : goal.loop-rule-preserved
loop-rule-preserved c =
    c.loop-rule.invariant
    ∙ goes_here (outside_items c.args.config.now Marks) c.args.rules.now c.loop-rule.rule-index c.rule-item.result _ _
    c.loop-rule-test.true c.rule-item.is refl c.in_ok-marked.ensures.is

pub returns : goal.returns
returns c = record {
  is = c.loop-rule.invariant
      ∙ none_left (outside_items c.args.config.now Marks) c.args.rules.now c.loop-rule.rule-index _ c.loop-rule-test.false;
}
