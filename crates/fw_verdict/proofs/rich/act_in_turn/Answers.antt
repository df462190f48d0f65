use Rattle.std.proofs.Common.{◌≡◌, sym, refl, subst, None, Some, Option, false}
use Rattle.std.specs.Prelude.{is_some}
use Rattle.fw_model.specs.declared.outcome.Verdict.{Verdict}
use Rattle.fw_verdict.specs.Given.{Walks}
use Rattle.fw_verdict.specs.Rich.{rule_items}
use Rattle.fw_verdict.specs.Walk.{walk}
use Rattle.fw_verdict.proofs.RichLists.{ends_behind, ends_here, goes_on_here}
use Rattle.fw_verdict.proofs.rich.act_in_turn.Goals as goal

pub returns-then-is_some : goal.returns-then-is_some
returns-then-is_some c =
    c.loop-rule.invariant c.act_in.new.logs c.in_ok-decided.decided
    (ends_here c.args.config.now c.args.part c.args.packet.now c.args.rules.now c.loop-rule.rule-index c.rule-item.result _ _ _
    c.loop-rule-test.true c.rule-item.is (sym c.if-is_some.ensures) c.in_ok-decided.ensures)

-- what is none
none : (decided : Option Verdict) → is_some decided ≡ false → decided ≡ None
none None is = refl
none (Some verdict) is = cc

pub loop-rule-preserved : goal.loop-rule-preserved
loop-rule-preserved c = λ logs decided behind.
    c.loop-rule.invariant logs decided
    (goes_on_here c.args.config.now c.args.part c.args.packet.now c.args.rules.now c.loop-rule.rule-index c.rule-item.result _ _ _ _
    c.loop-rule-test.true c.rule-item.is
    (subst (λ (found : Option Verdict). Walks (walk (rule_items c.args.config.now c.args.part c.rule-item.result.now) c.args.packet.now) c.loop-rule.logs c.act_in.new.logs found)
    (none c.in_ok-decided.decided (sym c.if-is_some.ensures)) c.in_ok-decided.ensures)
    behind)

pub returns : goal.returns
returns c =
    c.loop-rule.invariant c.loop-rule.logs None
    (ends_behind c.args.config.now c.args.part c.args.packet.now c.args.rules.now c.loop-rule.rule-index c.loop-rule.logs c.loop-rule-test.false)
