use Rattle.std.proofs.Common.{◌≡◌, List, ◌++◌, take, sym, subst, Bor}
use Rattle.std.specs.List.{flat_map}
use Rattle.std.proofs.lemmas.List.{take_all}
use Rattle.fw_model.specs.declared.rich.Rich.{Rich}
use Rattle.fw_order.specs.Borrowed.{lent}
use Rattle.fw_verdict.specs.Rich.{rule_items}
use Rattle.fw_verdict.specs.Walk.{Item, walk}
use Rattle.lower_zone.specs.Work.{Adds}
use Rattle.lower_zone.proofs.Items.{flat_more}
use Rattle.lower_zone.proofs.Works.{adds_lists, adds_nothing}
use Rattle.lower_zone.proofs.part.push_in_turn.Goals as goal

pub loop-rule-init : goal.loop-rule-init
loop-rule-init c = (adds_nothing c.args.config.now c.args.rules.now c.args.chains.now, λ parts named. named)

pub loop-rule-preserved : goal.loop-rule-preserved
loop-rule-preserved c = (
  subst (λ (list : List Item). Adds c.args.config.now (walk list) c.args.rules.now c.push_rule.new.rules c.args.chains.now c.push_rule.new.chains)
      (sym (flat_more (rule_items c.args.config.now c.args.part) c.args.ordered.now c.loop-rule.rule-index c.rule-item.result c.loop-rule-test.true c.rule-item.is))
      (adds_lists c.args.config.now (flat_map (rule_items c.args.config.now c.args.part) (lent (take c.loop-rule.rule-index c.args.ordered.now))) (rule_items c.args.config.now c.args.part c.rule-item.result.now) _ _ _ _ _ _
      c.loop-rule.invariant.0 c.in_ok-push_rule.ensures.adds),
  λ parts named. c.in_ok-push_rule.ensures.names parts (c.loop-rule.invariant.1 parts named),
)

pub returns-clause-adds : goal.returns-clause-adds
returns-clause-adds c =
    subst (λ (list : List (Bor Rich)). Adds c.args.config.now (walk (flat_map (rule_items c.args.config.now c.args.part) (lent list))) c.args.rules.now c.loop-rule.rules c.args.chains.now c.loop-rule.chains)
    (take_all c.loop-rule.rule-index c.args.ordered.now c.loop-rule-test.false) c.loop-rule.invariant.0

pub returns-clause-names : goal.returns-clause-names
returns-clause-names c = c.loop-rule.invariant.1
