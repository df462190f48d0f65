use Rattle.std.proofs.Common.{◌≡◌, ◌∙◌, ◌&&◌, List, sym, ap, refl, subst}
use Rattle.std.proofs.lemmas.Result.{on_ok_weaker}
use Rattle.fw_verdict.specs.Rich.{passes}
use Rattle.lower_zone.specs.Forms.{limited}
use Rattle.lower_zone.specs.Verdicts.{line_within}
use Rattle.lower_zone.specs.Work.{Tells}
use Rattle.lower_zone.proofs.Items.{adds_item}
use Rattle.lower_zone.proofs.Tells.{tells_limited}
use Rattle.lower_zone.proofs.part.push_within.Goals as goal
use Rattle.nf_rules.specs.declared.rule.Match.{Match}

pub returns-clause-adds : goal.returns-clause-adds
returns-clause-adds c =
    on_ok_weaker c.push_line.result
    (λ adds config condition tells.
    adds_item config (line_within condition c.args.limit c.args.line) (λ packet. condition packet && passes c.args.limit packet) _ _ _ _ (λ packet. refl)
    (adds config (λ packet. condition packet && passes c.args.limit packet)
    (subst (λ (made : List (List Match)). Tells config made (λ packet. condition packet && passes c.args.limit packet))
    (sym (c.in_ok-within.ensures ∙ ap (limited c.args.limit) c.as_slice.ensures))
    (tells_limited config c.args.alternatives.now condition c.args.limit tells))))
    c.push_line.ensures.adds
