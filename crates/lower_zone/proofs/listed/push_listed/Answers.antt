use Rattle.std.proofs.Common.{◌≡◌, ◌∙◌, List, map, sym, ap, refl, subst}
use Rattle.std.proofs.lemmas.Result.{on_ok_weaker}
use Rattle.fw_model.specs.declared.outcome.Verdict.TheVariants.{Accept}
use Rattle.fw_verdict.specs.Walk.{Item, walk}
use Rattle.lower_zone.specs.Verdicts.{decided_by}
use Rattle.lower_zone.specs.Work.{Adds}
use Rattle.lower_zone.proofs.Items.{listed_are}
use Rattle.lower_zone.proofs.listed.push_listed.Goals as goal

pub returns : goal.returns
returns c =
    on_ok_weaker c.push_settings.result
    (λ added chains.
    subst (λ (list : List Item). Adds c.args.config.now (walk list) c.args.rules.now c.push_settings.new.rules chains chains)
    (ap (map (decided_by c.args.config.now Accept)) (c.as_slice.ensures ∙ c.in_ok-settings.ensures) ∙ listed_are c.args.config.now c.args.listed.now c.args.inversion)
    (added chains (λ packet. refl)))
    c.push_settings.ensures
