use Rattle.std.proofs.Common.{◌∙◌, Option, sym, subst, ap}
use Rattle.std.proofs.lemmas.Result.{on_ok_weaker}
use Rattle.fw_hits.specs.Rich.{hits_rich}
use Rattle.fw_model.specs.declared.rich.RichLog.{RichLog}
use Rattle.fw_verdict.specs.Changes.Change.{log}
use Rattle.fw_verdict.specs.Outside.{log_items}
use Rattle.lower_outside.specs.Forms.{log_line}
use Rattle.lower_outside.specs.Steps.{Tell}
use Rattle.lower_outside.proofs.Told.{tell_within}
use Rattle.lower_outside.proofs.rich.push_log.Goals as goal
use Rattle.lower_zone.specs.Forms.{limited}
use Rattle.nf_rules.specs.declared.statement.Stmt.TheVariants as stmt

pub returns : goal.returns
returns c =
    let rule = c.args.rule.now in
    on_ok_weaker c.push_step.result
    (λ are config tells.
    subst (λ (told : Option RichLog). Tell config (log_items config rule told) c.args.steps.now c.push_step.new.steps) (sym c.in-Some.is)
    (tell_within config (hits_rich config rule) c.in-Some.log.limit (log (log_line c.in-Some.log)) c.args.alternatives.now _ _ _ _ are
    (c.in_ok-within.ensures ∙ ap (limited c.in-Some.log.limit) c.as_slice.ensures)
    (ap stmt.Log c.in_ok-line.ensures) tells tt))
    c.push_step.ensures
