use Rattle.std.proofs.Common.{◌≡◌, [], ◌∷◌, true, sym, subst}
use Rattle.std.proofs.lemmas.Result.{on_ok_weaker}
use Rattle.fw_addr.specs.declared.dnat.Dnat.{Dnat}
use Rattle.fw_hits.specs.Hits.{hits}
use Rattle.fw_model.specs.declared.setting.Setting.TheVariants as setting
use Rattle.fw_verdict.specs.Changes.Change.{translate}
use Rattle.lower_outside.specs.Steps.{Tell, item_of}
use Rattle.lower_outside.proofs.Told.{port_can}
use Rattle.lower_outside.proofs.settings.push_port.Goals as goal
use Rattle.lower_zone.proofs.Tells.{tells_setting}
use Rattle.nf_chains.specs.Marks.{can_translate}

pub returns : goal.returns
returns c =
    let config = c.args.config.now in
    let forward = c.args.forward.now in
    on_ok_weaker c.push_translation.result
    (λ adds plain.
    subst (λ (dnat : Dnat). Tell config (item_of (hits config (setting.Forward forward)) (translate dnat) ∷ []) c.args.steps.now c.push_translation.new.steps) c.target_of.ensures
    (adds config (hits config (setting.Forward forward))
    (tells_setting config (setting.Forward forward) c.in_ok-alternatives.alternatives c.as_slice.result.now c.as_slice-2.result.now c.as_slice.ensures c.as_slice-2.ensures c.in_ok-alternatives.ensures.tells c.in_ok-alternatives.ensures.stand)
    (λ packet hit. subst (λ (dnat : Dnat). can_translate dnat packet ≡ true) (sym c.target_of.ensures) (port_can config forward packet plain hit))))
    c.push_translation.ensures
