use Rattle.std.proofs.lemmas.Result.{on_ok_weaker}
use Rattle.fw_hits.specs.Hits.{hits}
use Rattle.lower_zone.proofs.Items.{adds_setting}
use Rattle.lower_zone.proofs.Tells.{tells_setting}
use Rattle.lower_zone.proofs.Works.{adds_decision}
use Rattle.lower_zone.proofs.listed.push_setting.Goals as goal

pub returns : goal.returns
returns c =
    on_ok_weaker c.push_decision.result
    (λ are chains can.
    adds_setting c.args.config.now c.args.verdict c.args.setting.now _ _ chains can
    (adds_decision c.args.config.now (hits c.args.config.now c.args.setting.now) _ c.args.verdict _ _ chains are
    (tells_setting c.args.config.now c.args.setting.now c.in_ok-alternatives.alternatives c.as_slice.result.now c.as_slice-2.result.now c.as_slice.ensures c.as_slice-2.ensures c.in_ok-alternatives.ensures.tells c.in_ok-alternatives.ensures.stand)))
    c.push_decision.ensures
