use Rattle.std.proofs.Common.{◌≡◌, Option, Some, sym, subst}
use Rattle.std.proofs.lemmas.Result.{on_ok_weaker}
use Rattle.fw_addr.specs.declared.limit.Limit.{Limit}
use Rattle.fw_model.specs.declared.rich.Action.{Action}
use Rattle.fw_verdict.specs.Rich.{audited}
use Rattle.fw_verdict.specs.Walk.{walk}
use Rattle.lower_zone.specs.Work.{Adds}
use Rattle.lower_zone.proofs.Works.{adds_nothing}
use Rattle.lower_zone.proofs.part.push_audit.Goals as goal

pub returns-in_default-clause-adds : goal.returns-in_default-clause-adds
returns-in_default-clause-adds c = λ config tells.
    subst (λ (told : Option (Option Limit)). Adds config (walk (audited config c.args.rule.now told c.args.rule.now.action)) c.args.rules.now c.args.rules.now c.args.chains.now c.args.chains.now)
    (sym c.in_default.is) (adds_nothing config c.args.rules.now c.args.chains.now)

pub returns-in_default-action-clause-adds : goal.returns-in_default-action-clause-adds
returns-in_default-action-clause-adds c = λ config tells.
    subst (λ (told : Option (Option Limit)). Adds config (walk (audited config c.args.rule.now told c.args.rule.now.action)) c.args.rules.now c.args.rules.now c.args.chains.now c.args.chains.now)
    (sym c.in-Some.is)
    (subst (λ (action : Option Action). Adds config (walk (audited config c.args.rule.now (Some c.in-Some.limit) action)) c.args.rules.now c.args.rules.now c.args.chains.now c.args.chains.now)
    (sym c.in_default-action.is) (adds_nothing config c.args.rules.now c.args.chains.now))

pub returns-clause-adds : goal.returns-clause-adds
returns-clause-adds c =
    on_ok_weaker c.push_audit_of.result
    (λ adds config tells.
    subst (λ (told : Option (Option Limit)). Adds config (walk (audited config c.args.rule.now told c.args.rule.now.action)) c.args.rules.now c.push_audit_of.new.rules c.args.chains.now c.push_audit_of.new.chains)
    (sym c.in-Some.is)
    (subst (λ (action : Option Action). Adds config (walk (audited config c.args.rule.now (Some c.in-Some.limit) action)) c.args.rules.now c.push_audit_of.new.rules c.args.chains.now c.push_audit_of.new.chains)
    (sym c.in-Some-action.is) (adds config c.args.rule.now tells)))
    c.push_audit_of.ensures.adds
