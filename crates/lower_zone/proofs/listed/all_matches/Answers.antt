use Rattle.std.proofs.Common.{◌≡◌, ◌∙◌, ◌+◌, Bool, List, [], ◌++◌, ◌||◌, false, take, sym, ap, subst}
use Rattle.std.specs.List.{list_any}
use Rattle.std.proofs.lemmas.List.{take_all}
use Rattle.fw_hits.specs.Hits.{hits}
use Rattle.fw_model.specs.declared.packet.Packet.{Packet}
use Rattle.fw_model.specs.declared.setting.Setting.{Setting}
use Rattle.lower_zone.specs.Work.{Tells}
use Rattle.lower_zone.proofs.Items.{any_more}
use Rattle.lower_zone.proofs.Tells.{tells_either, tells_nothing, tells_same, tells_setting}
use Rattle.lower_zone.proofs.listed.all_matches.Goals as goal
use Rattle.nf_rules.specs.declared.rule.Match.{Match}

pub loop-setting-init : goal.loop-setting-init
loop-setting-init c =
    subst (λ (made : List (List Match)). Tells c.args.config.now made (λ packet. false)) (sym c.new-all.ensures) (tells_nothing c.args.config.now)

pub loop-setting-preserved : goal.loop-setting-preserved
loop-setting-preserved c =
    let config = c.args.config.now in
    let told = c.setting-item.result in
    let before : Packet → Bool = λ packet. list_any (λ one. hits config one packet) (take c.loop-setting.setting-index c.args.settings.now) in
    let all : Packet → Bool = λ packet. list_any (λ one. hits config one packet) (take (c.loop-setting.setting-index + 1) c.args.settings.now) in
    subst (λ (made : List (List Match)). Tells config made all) (sym c.in_ok-push_all.ensures)
    (tells_same config (c.loop-setting.all ++ c.in_ok-alternatives.alternatives) (λ packet. before packet || hits config told packet) all
    (λ packet. any_more (λ one. hits config one packet) c.args.settings.now c.loop-setting.setting-index told c.loop-setting-test.true c.setting-item.is)
    (tells_either config c.loop-setting.all c.in_ok-alternatives.alternatives before (hits config told) c.loop-setting.invariant
    (tells_setting config told c.in_ok-alternatives.alternatives c.as_slice.result.now c.as_slice-in-loop-setting.result.now c.as_slice.ensures c.as_slice-in-loop-setting.ensures c.in_ok-alternatives.ensures.tells c.in_ok-alternatives.ensures.stand)))

pub returns : goal.returns
returns c =
    subst (λ (list : List Setting). Tells c.args.config.now c.loop-setting.all (λ packet. list_any (λ told. hits c.args.config.now told packet) list))
    (take_all c.loop-setting.setting-index c.args.settings.now c.loop-setting-test.false) c.loop-setting.invariant
