use Rattle.std.proofs.Common.{◌≡◌, List, ◌++◌, ◌∷◌, [], map, take, drop, sym, ap, subst}
use Rattle.std.proofs.lemmas.List.{take_all}
use Rattle.fw_model.specs.declared.setting.Setting.{Setting}
use Rattle.fw_verdict.specs.Walk.{Item, walk}
use Rattle.lower_zone.specs.Verdicts.{decided_by}
use Rattle.lower_zone.specs.Work.{Adds}
use Rattle.lower_zone.proofs.Items.{map_more}
use Rattle.lower_zone.proofs.Works.{adds_lists, adds_nothing}
use Rattle.lower_zone.proofs.listed.push_settings.Goals as goal

pub loop-setting-init : goal.loop-setting-init
loop-setting-init c = λ chains can. adds_nothing c.args.config.now c.args.rules.now chains

pub loop-setting-preserved : goal.loop-setting-preserved
loop-setting-preserved c = λ chains can.
    subst (λ (list : List Item). Adds c.args.config.now (walk list) c.args.rules.now c.push_setting.new.rules chains chains)
    (sym (map_more (decided_by c.args.config.now c.args.verdict) c.args.settings.now c.loop-setting.setting-index c.setting-item.result c.loop-setting-test.true c.setting-item.is))
    (adds_lists c.args.config.now (map (decided_by c.args.config.now c.args.verdict) (take c.loop-setting.setting-index c.args.settings.now)) (decided_by c.args.config.now c.args.verdict c.setting-item.result ∷ []) _ _ _ _ _ _
    (c.loop-setting.invariant chains can) (c.in_ok-push_setting.ensures chains can))

pub returns : goal.returns
returns c = λ chains can.
    subst (λ (list : List Setting). Adds c.args.config.now (walk (map (decided_by c.args.config.now c.args.verdict) list)) c.args.rules.now c.loop-setting.rules chains chains)
    (take_all c.loop-setting.setting-index c.args.settings.now c.loop-setting-test.false) (c.loop-setting.invariant chains can)
