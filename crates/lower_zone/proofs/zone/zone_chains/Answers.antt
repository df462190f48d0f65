use Rattle.std.proofs.Common.{◌≡◌, ◌∙◌, List, ℕ, Some, sym, subst}
use Rattle.std.proofs.lemmas.Result.{IfOk-weaker}
use Rattle.fw_model.specs.declared.zone.Zone.{Zone}
use Rattle.fw_verdict.specs.Items.{items}
use Rattle.fw_verdict.specs.Walk.{walk}
use Rattle.lower_zone.specs.Evaluates.{Evaluates}
use Rattle.lower_zone.specs.Stands.{StandAlone}
use Rattle.lower_zone.specs.Names.{NamesDiffer, block_name, zone_block}
use Rattle.lower_zone.proofs.zone.zone_chains.Goals as goal

one_there : {A : Type 0} (one other : A) → Some one ≡ Some other → one ≡ other
one_there one other is = cc

pub returns-clause-evaluates : goal.returns-clause-evaluates
returns-clause-evaluates c =
    let config = c.args.runtime.now.config in
    IfOk-weaker c.block_chains.result _ _
    (λ made evaluates it is.
    subst (λ (zone : Zone). Evaluates config made (block_name (zone_block zone.name)) (walk (items config zone.rules zone.inversion)))
    (one_there c.zone_at-zone.result.now it (sym c.zone_at-zone.ensures ∙ is))
    (subst (λ (block : List ℕ). Evaluates config made (block_name block) (walk (items config c.zone_at-zone.result.now.rules c.zone_at-zone.result.now.inversion))) c.in_ok-block.ensures evaluates))
    c.block_chains.ensures.evaluates

pub returns-clause-names : goal.returns-clause-names
returns-clause-names c =
    IfOk-weaker c.block_chains.result _ _
    (λ made differ it is.
    subst (λ (zone : Zone). NamesDiffer (zone_block zone.name) made)
    (one_there c.zone_at-zone.result.now it (sym c.zone_at-zone.ensures ∙ is))
    (subst (λ (block : List ℕ). NamesDiffer block made) c.in_ok-block.ensures differ))
    c.block_chains.ensures.names

pub returns-clause-stands : goal.returns-clause-stands
returns-clause-stands c =
    let config = c.args.runtime.now.config in
    IfOk-weaker c.block_chains.result _ _
    (λ made alone it is.
    subst (λ (zone : Zone). StandAlone config made (block_name (zone_block zone.name)))
    (one_there c.zone_at-zone.result.now it (sym c.zone_at-zone.ensures ∙ is))
    (subst (λ (block : List ℕ). StandAlone config made (block_name block)) c.in_ok-block.ensures alone))
    c.block_chains.ensures.stands
