use Rattle.std.proofs.Common.{◌≡◌, ◌∙◌, sym, ap, subst}
use Rattle.std.proofs.lemmas.Result.{on_ok_weaker}
use Rattle.fw_addr.specs.declared.log.LogLine.{LogLine}
use Rattle.fw_hits.specs.Rich.{hits_rich}
use Rattle.fw_verdict.specs.Rich.{audit_line, audited_as}
use Rattle.fw_verdict.specs.Walk.{walk}
use Rattle.lower_zone.specs.Verdicts.{line_within}
use Rattle.lower_zone.specs.Work.{Adds}
use Rattle.std.specs.Prelude.{[], ◌∷◌}
use Rattle.std.specs.Option.{option_copied}
use Rattle.lower_zone.proofs.Items.{adds_audit, adds_no_audit}
use Rattle.lower_zone.proofs.part.push_audit_of.Goals as goal

pub returns-in_default-clause-adds : goal.returns-in_default-clause-adds
returns-in_default-clause-adds c = λ config rule tells.
    adds_no_audit config rule c.args.limit c.args.act c.args.rules.now c.args.chains.now (sym c.audit_name.ensures ∙ ap option_copied c.in_default.is)

pub returns-clause-adds : goal.returns-clause-adds
returns-clause-adds c =
    on_ok_weaker c.push_within.result
    (λ adds config rule tells.
    adds_audit config rule c.args.limit _ _ _ _ c.args.act _ (sym c.audit_name.ensures ∙ ap option_copied c.in-Some.is)
    (subst (λ (line : LogLine). Adds config (walk (line_within (hits_rich config rule) c.args.limit line ∷ [])) c.args.rules.now c.push_within.new.rules c.args.chains.now c.push_within.new.chains)
    c.in_ok-line.ensures (adds config (hits_rich config rule) tells)))
    c.push_within.ensures.adds
