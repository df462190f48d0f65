use Rattle.std.proofs.lemmas.Result.{on_ok_weaker}
use Rattle.fw_model.specs.declared.setting.Setting.TheVariants as setting
use Rattle.fw_verdict.specs.Outside.{effect_items, log_items}
use Rattle.lower_outside.proofs.Told.{tell_both}
use Rattle.lower_outside.proofs.rich.push_rule.Goals as goal
use Rattle.lower_zone.proofs.Tells.{tells_setting}

pub returns : goal.returns
returns c =
    let config = c.args.config.now in
    let rule = c.args.rule.now in
    let tells = tells_setting config (setting.Rich rule) c.in_ok-alternatives.alternatives c.as_slice.result.now c.as_slice-2.result.now c.as_slice.ensures c.as_slice-2.ensures c.in_ok-alternatives.ensures.tells c.in_ok-alternatives.ensures.stand in
    on_ok_weaker c.push_effect.result
    (λ adds is. tell_both config (log_items config rule rule.log) (effect_items config c.args.place rule) _ _ _ (c.in_ok-push_log.ensures config tells) (adds config is tells))
    c.push_effect.ensures
