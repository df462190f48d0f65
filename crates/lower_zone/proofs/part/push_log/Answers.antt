use Rattle.std.proofs.Common.{◌≡◌, Option, sym, subst}
use Rattle.std.proofs.lemmas.Result.{on_ok_weaker}
use Rattle.fw_addr.specs.declared.log.LogLine.{LogLine}
use Rattle.fw_hits.specs.Rich.{hits_rich}
use Rattle.fw_model.specs.declared.rich.RichLog.{RichLog}
use Rattle.fw_verdict.specs.Rich.{logged}
use Rattle.fw_verdict.specs.Walk.{walk}
use Rattle.lower_zone.specs.Verdicts.{line_within}
use Rattle.lower_zone.specs.Work.{Adds}
use Rattle.std.specs.Prelude.{[], ◌∷◌}
use Rattle.lower_zone.proofs.Works.{adds_nothing}
use Rattle.lower_zone.proofs.part.push_log.Goals as goal

pub returns-in_default-clause-adds : goal.returns-in_default-clause-adds
returns-in_default-clause-adds c = λ config tells.
    subst (λ (told : Option RichLog). Adds config (walk (logged config c.args.rule.now told)) c.args.rules.now c.args.rules.now c.args.chains.now c.args.chains.now)
    (sym c.in_default.is) (adds_nothing config c.args.rules.now c.args.chains.now)

pub returns-clause-adds : goal.returns-clause-adds
returns-clause-adds c =
    on_ok_weaker c.push_within.result
    (λ adds config tells.
    subst (λ (told : Option RichLog). Adds config (walk (logged config c.args.rule.now told)) c.args.rules.now c.push_within.new.rules c.args.chains.now c.push_within.new.chains)
    (sym c.in-Some.is)
    (subst (λ (line : LogLine). Adds config (walk (line_within (hits_rich config c.args.rule.now) c.in-Some.log.limit line ∷ [])) c.args.rules.now c.push_within.new.rules c.args.chains.now c.push_within.new.chains)
    c.in_ok-line.ensures (adds config (hits_rich config c.args.rule.now) tells)))
    c.push_within.ensures.adds
