-- The inversion of a zone's ICMP blocks keeps the settings valid, and so does a question.
use Rattle.std.proofs.Common.{◌≡◌, ℕ, Bool, true, false, not, List, Ok, slice_get, slice_set, Some, refl, subst}
use Rattle.fw_act.specs.Acts.{Answered, required}
use Rattle.fw_calls.specs.declared.call.BindingWord.{BindingWord}
use Rattle.fw_calls.specs.declared.member.Verb.TheVariants as verb
use Rattle.fw_calls.specs.declared.member.Verb.{Verb}
use Rattle.fw_calls.specs.declared.signal_kind.SignalKind.TheVariants as signal
use Rattle.fw_calls.specs.declared.signal_kind.SignalKind.{SignalKind}
use Rattle.fw_dicts_valid.proofs.Steps.{inner, then_ok}
use Rattle.fw_kept_valid.proofs.Steps.{looked_up, valid_after}
use Rattle.fw_model.specs.declared.code.Code.TheVariants as code
use Rattle.fw_settings.specs.Valid.{AreValid}
use Rattle.fw_settings.specs.declared.settings.Settings.{Settings}
use Rattle.fw_timer_laws.proofs.Held.{timers_stay}
use Rattle.fw_zone_edits.specs.Zones.{Found}
use Rattle.fw_zone_laws.proofs.Zones.{inversion_changed}
use Rattle.fw_zone_members.specs.Asking.{zone_settings_member}
use Rattle.fw_zone_members.specs.Bindings.{zone_of_member}
use Rattle.fw_zone_members.specs.Inversion as members
use Rattle.fw_zone_members.specs.Inversion.{inversion_member, inverted}
use Rattle.fw_zone_members.specs.Reading.{entry_of, look_up}

inverted_valid : (settings : Settings) (found : Found) (kind : SignalKind) (inversion : Bool) → AreValid settings → slice_get settings.runtime.config.zones found.place ≡ Some found.zone
    → AreValid (inverted settings found kind inversion).after
inverted_valid settings found kind inversion valid at =
    let config = settings.runtime.config in
    let new = record found.zone { inversion = inversion } in
    valid_after settings (slice_set config.zones found.place new) settings.timers valid (inversion_changed config found valid.runtime at inversion)
    (timers_stay config found.place found.zone new settings.timers at refl refl valid.timers)

pub inversion_valid : (settings : Settings) (verb : Verb) (zone : List ℕ) (answered : Answered Settings) → AreValid settings → inversion_member settings verb zone ≡ Ok answered → AreValid answered.after
unfolding inversion_member
inversion_valid settings verb.Add zone answered valid is =
    let found = then_ok _ (look_up settings.runtime.config zone) answered is in
    let absent = then_ok _ (required (not found.0.zone.inversion) code.AlreadyEnabled members.subject) answered found.2 in
    subst (λ (a : Answered Settings). AreValid a.after) (inner _ answered absent.2) (inverted_valid settings found.0 signal.ZoneIcmpBlockInversionAdded true valid (looked_up settings.runtime.config zone found.0 found.1))
inversion_valid settings verb.Remove zone answered valid is =
    let found = then_ok _ (look_up settings.runtime.config zone) answered is in
    let there = then_ok _ (required found.0.zone.inversion code.NotEnabled members.subject) answered found.2 in
    subst (λ (a : Answered Settings). AreValid a.after) (inner _ answered there.2) (inverted_valid settings found.0 signal.ZoneIcmpBlockInversionRemoved false valid (looked_up settings.runtime.config zone found.0 found.1))
inversion_valid settings verb.Query zone answered valid is =
    let found = then_ok _ (look_up settings.runtime.config zone) answered is in
    subst (λ (a : Answered Settings). AreValid a.after) (inner _ answered found.2) valid

pub zone_settings_valid : (settings : Settings) (zone : List ℕ) (answered : Answered Settings) → AreValid settings → zone_settings_member settings zone ≡ Ok answered → AreValid answered.after
unfolding zone_settings_member
zone_settings_valid settings zone answered valid is =
    let found = then_ok _ (look_up settings.runtime.config zone) answered is in
    subst (λ (a : Answered Settings). AreValid a.after) (inner _ answered found.2) valid

pub zone_of_valid : (settings : Settings) (word : BindingWord) (answered : Answered Settings) → AreValid settings → zone_of_member settings word ≡ Ok answered → AreValid answered.after
unfolding zone_of_member
zone_of_valid settings word answered valid is =
    let entry = then_ok _ (entry_of settings.runtime.config.ipsets word) answered is in
    subst (λ (a : Answered Settings). AreValid a.after) (inner _ answered entry.2) valid
