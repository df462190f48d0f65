use Rattle.std.proofs.Common.{List, take, sym, subst, Bor}
use Rattle.std.specs.List.{flat_map}
use Rattle.std.proofs.lemmas.List.{take_all}
use Rattle.fw_model.specs.declared.rich.Rich.{Rich}
use Rattle.fw_order.specs.Borrowed.{lent}
use Rattle.fw_valid.specs.Riches.{IsRich}
use Rattle.fw_verdict.specs.Changes.{ChangeItem}
use Rattle.fw_verdict.specs.Outside.{outside_items}
use Rattle.lower_outside.specs.Steps.{Tell}
use Rattle.lower_outside.proofs.Lists.{each_at}
use Rattle.lower_outside.proofs.Told.{tell_both, tell_nothing}
use Rattle.lower_outside.proofs.rich.push_in_turn.Goals as goal
use Rattle.lower_zone.proofs.Items.{flat_more}

pub loop-rule-init : goal.loop-rule-init
loop-rule-init c = λ all. tell_nothing c.args.config.now c.args.steps.now

pub loop-rule-preserved : goal.loop-rule-preserved
loop-rule-preserved c = λ all.
    let config = c.args.config.now in
    let items = outside_items config c.args.place in
    subst (λ (list : List ChangeItem). Tell config list c.args.steps.now c.push_rule.new.steps)
    (sym (flat_more items c.args.ordered.now c.loop-rule.rule-index c.rule-item.result c.loop-rule-test.true c.rule-item.is))
    (tell_both config (flat_map items (lent (take c.loop-rule.rule-index c.args.ordered.now))) (items c.rule-item.result.now) _ _ _
    (c.loop-rule.invariant all)
    (c.in_ok-push_rule.ensures (each_at IsRich c.args.ordered.now c.loop-rule.rule-index c.rule-item.result c.loop-rule-test.true c.rule-item.is all)))

pub returns : goal.returns
returns c = λ all.
    subst (λ (list : List (Bor Rich)). Tell c.args.config.now (flat_map (outside_items c.args.config.now c.args.place) (lent list)) c.args.steps.now c.loop-rule.steps)
    (take_all c.loop-rule.rule-index c.args.ordered.now c.loop-rule-test.false) (c.loop-rule.invariant all)
