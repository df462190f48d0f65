use Rattle.std.proofs.Common.{List, sym, subst}
use Rattle.fw_verdict.specs.Changes.{ChangeItem}
use Rattle.lower_outside.specs.Work.{Adds}
use Rattle.lower_outside.proofs.Named.{named_step}
use Rattle.lower_outside.proofs.Told.{told_none}
use Rattle.lower_outside.proofs.Works.{adds_more, adds_nothing}
use Rattle.lower_outside.proofs.block.push_all.Goals as goal

pub loop-step-init : goal.loop-step-init
loop-step-init c = (
  λ config items are.
      subst (λ (list : List ChangeItem). Adds config list c.args.rules.now c.args.rules.now c.args.chains.now c.args.chains.now) (sym (told_none config items are))
      (adds_nothing config c.args.rules.now c.args.chains.now),
  λ named. named,
)

pub loop-step-preserved : goal.loop-step-preserved
loop-step-preserved c = (
  λ config items are.
      adds_more config c.args.side c.args.block.now c.loop-step.yielded c.in-Some.step items _ _ _ _ _ _ (c.loop-step.invariant.0 config) c.in_ok-push_rules.ensures are,
  λ named. named_step c.args.side c.args.block.now c.in-Some.step _ _ _ _ c.in_ok-push_rules.ensures (c.loop-step.invariant.1 named),
)
