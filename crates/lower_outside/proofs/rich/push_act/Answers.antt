use Rattle.std.proofs.Common.{sym, subst}
use Rattle.std.proofs.lemmas.Result.{on_ok_weaker}
use Rattle.fw_hits.specs.Rich.{hits_rich}
use Rattle.fw_model.specs.declared.rich.Act.{Act}
use Rattle.fw_verdict.specs.Outside.{act_items}
use Rattle.lower_outside.specs.Steps.{Tell}
use Rattle.lower_outside.proofs.rich.push_act.Goals as goal

pub returns-in-Mark : goal.returns-in-Mark
returns-in-Mark c =
    on_ok_weaker c.push_mark.result
    (λ adds config rule tells.
    subst (λ (act : Act). Tell config (act_items config rule c.args.limit act) c.args.steps.now c.push_mark.new.steps) (sym c.in-Mark.is)
    (adds config (hits_rich config rule) tells))
    c.push_mark.ensures
