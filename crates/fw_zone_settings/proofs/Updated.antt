-- Timers after a zone has other settings.
use Rattle.std.proofs.Common.{◌≡◌, ℕ, List, Option, None, Some, Result, Ok, Err, slice_get, position, refl, ap, subst}
use Rattle.std.proofs.lemmas.Option.{same_Some}
use Rattle.std.specs.Str.{bytes_eq}
use Rattle.fw_act.specs.Acts.{found_or}
use Rattle.fw_calls.specs.declared.dict.Dict.{Dict}
use Rattle.fw_calls.specs.declared.reply.Refusal.{Refusal}
use Rattle.fw_dicts.specs.Zones.{others, zone_told}
use Rattle.fw_model.specs.declared.code.Code.TheVariants as code
use Rattle.fw_model.specs.declared.config.Config.{Config}
use Rattle.fw_model.specs.declared.zone.Zone.{Zone}
use Rattle.fw_settings.specs.Valid.{AreTimers}
use Rattle.fw_settings.specs.declared.settings.Settings.{Settings}
use Rattle.fw_text.specs.Steps.{◌>>=◌}
use Rattle.fw_zone_edits.specs.Zones.{Found, meant, zone_meant}
use Rattle.fw_zone_members.specs.Reading.{look_up}
use Rattle.fw_zone_settings.proofs.Held.{timers_held}
use Rattle.fw_zone_settings.proofs.Names.{both, name_kept, same_made}
use Rattle.fw_zone_settings.specs.Timers.{going_on}
use Rattle.fw_zone_settings.specs.Updates.{update_of, with_update}
use Rattle.fw_zone_settings.specs.declared.update.Update.{Update}

abbrev some_of : Result Found Refusal → Option Found
some_of (Ok found) = Some found
some_of (Err refusal) = None

some_found : (name : List ℕ) (found : Option Found) (one : Found) → found_or code.InvalidZone name found ≡ Ok one → found ≡ Some one
some_found name None one is = cc
some_found name (Some other) one is = ap some_of is

at_zone : (zones : List Zone) (place : ℕ) (got : Option Zone) (found : Found) → slice_get zones place ≡ got
    → (got >>= (λ (zone : Zone). let one : Found = record { place = place; zone = zone } in Some one)) ≡ Some found → slice_get zones found.place ≡ Some found.zone
at_zone zones place None found at is = cc
at_zone zones place (Some zone) found at is =
    let one : Found = record { place = place; zone = zone } in
    subst (λ (f : Found). slice_get zones f.place ≡ Some f.zone) (same_Some one found is) at

at_place : (zones : List Zone) (place : Option ℕ) (found : Found)
    → (place >>= (λ (place : ℕ). slice_get zones place >>= (λ (zone : Zone). let one : Found = record { place = place; zone = zone } in Some one))) ≡ Some found
    → slice_get zones found.place ≡ Some found.zone
at_place zones None found is = cc
at_place zones (Some place) found is = at_zone zones place (slice_get zones place) found refl is

pub looked_up : (config : Config) (name : List ℕ) (found : Found) → look_up config name ≡ Ok found → slice_get config.zones found.place ≡ Some found.zone
unfolding look_up
looked_up config name found is =
    at_place config.zones (position (λ (zone : Zone). bytes_eq zone.name (meant config name)) config.zones) found (some_found name (zone_meant config name) found is)

pub updated : (settings : Settings) (zone : List ℕ) (dict : Dict) (update : Update) → update_of settings zone dict ≡ Ok update
    → AreTimers settings.runtime.config settings.timers
    → AreTimers (with_update settings update).runtime.config (with_update settings update).timers
unfolding update_of
updated settings zone dict update is are =
    let config = settings.runtime.config in
    let found = both (look_up config zone) _ update is in
    let told = both (zone_told config (others config.zones found.0.place) found.0.zone dict) _ update found.2 in
    let made : Update = record { place = found.0.place; zone = told.0; timers = going_on told.0 settings.timers } in
    subst (λ (u : Update). AreTimers (with_update settings u).runtime.config (with_update settings u).timers) (same_made made update (Ok made) refl told.2)
    (timers_held config found.0.place found.0.zone told.0 settings.timers (looked_up config zone found.0 found.1)
    (name_kept config (others config.zones found.0.place) found.0.zone dict told.0 told.1) are)
