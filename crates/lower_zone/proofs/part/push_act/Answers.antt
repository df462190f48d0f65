use Rattle.std.proofs.Common.{◌≡◌, ◌∙◌, ◌&&◌, List, sym, ap, subst}
use Rattle.std.proofs.lemmas.Result.{on_ok_weaker}
use Rattle.fw_hits.specs.Rich.{hits_rich}
use Rattle.fw_verdict.specs.Rich.{passes}
use Rattle.lower_zone.specs.Forms.{limited}
use Rattle.lower_zone.specs.Work.{Tells}
use Rattle.lower_zone.proofs.Items.{adds_act, adds_no_act}
use Rattle.lower_zone.proofs.Tells.{tells_limited}
use Rattle.lower_zone.proofs.Works.{adds_decision}
use Rattle.lower_zone.proofs.part.push_act.Goals as goal
use Rattle.nf_rules.specs.declared.rule.Match.{Match}

pub returns-in_default : goal.returns-in_default
returns-in_default c = λ config rule chains tells.
    adds_no_act config rule c.args.limit c.args.act c.args.rules.now chains (sym c.verdict_of.ensures ∙ c.in_default.is)

pub returns : goal.returns
returns c =
    on_ok_weaker c.push_decision.result
    (λ are config rule chains tells.
    adds_act config rule c.args.limit _ _ _ _ c.args.act c.in-Some.verdict (sym c.verdict_of.ensures ∙ c.in-Some.is)
    (adds_decision config (λ packet. hits_rich config rule packet && passes c.args.limit packet) _ c.in-Some.verdict _ _ chains are
    (subst (λ (made : List (List Match)). Tells config made (λ packet. hits_rich config rule packet && passes c.args.limit packet))
    (sym (c.in_ok-within.ensures ∙ ap (limited c.args.limit) c.as_slice.ensures))
    (tells_limited config c.args.alternatives.now (hits_rich config rule) c.args.limit tells))))
    c.push_decision.ensures
