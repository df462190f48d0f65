use Rattle.std.proofs.Common.{Bool, sym, subst}
use Rattle.std.proofs.lemmas.Result.{on_ok_weaker}
use Rattle.fw_hits.specs.Hits.{hits}
use Rattle.fw_model.specs.declared.setting.Setting.TheVariants as setting
use Rattle.fw_verdict.specs.Outside.{plain_items}
use Rattle.lower_outside.specs.Steps.{Tell}
use Rattle.lower_outside.proofs.settings.push_plain.Goals as goal
use Rattle.lower_zone.proofs.Tells.{tells_setting}

pub returns : goal.returns
returns c =
    let config = c.args.config.now in
    on_ok_weaker c.push_masquerade.result
    (λ adds.
    subst (λ (masked : Bool). Tell config (plain_items config masked) c.args.steps.now c.push_masquerade.new.steps) (sym c.if-not-masquerade.false)
    (adds config (hits config setting.Masquerade)
    (tells_setting config setting.Masquerade c.in_ok-alternatives.alternatives c.as_slice.result.now c.as_slice-2.result.now c.as_slice.ensures c.as_slice-2.ensures c.in_ok-alternatives.ensures.tells c.in_ok-alternatives.ensures.stand)))
    c.push_masquerade.ensures
