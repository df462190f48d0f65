-- The call on the zone that was found.
use Rattle.std.proofs.Common.{◌≡◌, List, Some, Result, Ok, ap, sym, subst, ◌∙◌}
use Rattle.std.proofs.lemmas.Option.{same_Some}
use Rattle.fw_model.specs.declared.ipset.IpSet.{IpSet}
use Rattle.fw_model.specs.declared.service.Service.{Service}
use Rattle.fw_model.specs.declared.zone.Zone.{Zone}
use Rattle.fw_zone_calls.proofs.InZone.{zone_answers}
use Rattle.fw_zone_calls.specs.Calls.{look_up}
use Rattle.fw_answer.specs.Refusals.{Answers}
use Rattle.fw_zone_calls.specs.Settings.{setting_call}
use Rattle.fw_zone_calls.specs.Zones.{Found}
use Rattle.fw_answer.specs.declared.refusal.Refusal.{Refusal}
use Rattle.fw_zone_calls.proofs.answer.setting_in.Goals as goal

pub returns : goal.returns
returns c =
    let found : Found = record { place = c.in_ok-found.found.place; zone = c.get_mut.result.now } in
    let same : c.in_ok-found.found.zone.now ≡ c.get_mut.result.now = same_Some c.in_ok-found.found.zone.now c.get_mut.result.now (sym c.in_ok-found.ensures.at ∙ c.get_mut.ensures.value) in
    let looked_up : look_up c.args.config.now c.args.zone.now ≡ Ok found =
    c.in_ok-found.ensures.found ∙ ap (λ (zone : Zone). let one : Found = record { place = c.in_ok-found.found.place; zone = zone } in Ok one) same in
    let with_services =
    subst (λ (services : List Service). Answers c.get_mut.result.now c.setting_call.new.zone c.setting_call.result (setting_call services c.as_slice-ipsets.result.now c.get_mut.result.now c.args.verb c.args.words.now))
    c.as_slice-services.ensures c.setting_call.ensures in
    let answers =
    subst (λ (ipsets : List IpSet). Answers c.get_mut.result.now c.setting_call.new.zone c.setting_call.result (setting_call c.args.config.now.services ipsets c.get_mut.result.now c.args.verb c.args.words.now))
    c.as_slice-ipsets.ensures with_services in
    zone_answers c.args.config.now c.args.zone.now (λ (zone : Zone). setting_call c.args.config.now.services c.args.config.now.ipsets zone c.args.verb c.args.words.now) found c.setting_call.new.zone c.setting_call.result looked_up c.get_mut.ensures.value answers
