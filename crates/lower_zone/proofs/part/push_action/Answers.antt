use Rattle.std.proofs.Common.{◌≡◌, Option, sym, subst}
use Rattle.std.proofs.lemmas.Result.{on_ok_weaker}
use Rattle.fw_model.specs.declared.rich.Action.{Action}
use Rattle.fw_verdict.specs.Rich.{acted}
use Rattle.fw_verdict.specs.Walk.{walk}
use Rattle.lower_zone.specs.Work.{Adds}
use Rattle.lower_zone.proofs.part.push_action.Goals as goal

pub returns-in-Some : goal.returns-in-Some
returns-in-Some c =
    on_ok_weaker c.push_act.result
    (λ adds config chains tells.
    subst (λ (action : Option Action). Adds config (walk (acted config c.args.rule.now action)) c.args.rules.now c.push_act.new.rules chains chains)
    (sym c.in-Some.is) (adds config c.args.rule.now chains tells))
    c.push_act.ensures

pub returns-in-None : goal.returns-in-None
returns-in-None c =
    on_ok_weaker c.push_element.result
    (λ adds config chains tells.
    subst (λ (action : Option Action). Adds config (walk (acted config c.args.rule.now action)) c.args.rules.now c.push_element.new.rules chains chains)
    (sym c.in-None.is) (adds config c.args.rule.now chains tells))
    c.push_element.ensures
