-- A zone in force that is given the settings of a dict keeps the settings valid.
use Rattle.std.proofs.Common.{◌≡◌, ℕ, List, Ok, subst}
use Rattle.fw_act.specs.Acts.{Answered}
use Rattle.fw_calls.specs.declared.dict.Dict.{Dict}
use Rattle.fw_dicts.specs.Zones.{others, zone_told}
use Rattle.fw_dicts_valid.proofs.Steps.{inner, then_ok}
use Rattle.fw_dicts_valid.proofs.Zones.{zone_fits}
use Rattle.fw_settings.specs.Valid.{AreValid}
use Rattle.fw_settings.specs.declared.settings.Settings.{Settings}
use Rattle.fw_valid.specs.Valid.{IsValid}
use Rattle.fw_valid_edits.proofs.ZoneEdits.{changed_zone, zone_beside}
use Rattle.fw_zone_members.specs.Reading.{look_up}
use Rattle.fw_zone_settings.proofs.Updated.{looked_up, updated}
use Rattle.fw_zone_settings.specs.Updates.{set_zone_settings_member, update_of, with_update}
use Rattle.fw_zone_settings.specs.declared.update.Update.{Update}

-- the configuration with what a dict made of one of its zones
config_valid : (settings : Settings) (zone : List ℕ) (dict : Dict) (update : Update) → IsValid settings.runtime.config → update_of settings zone dict ≡ Ok update
    → IsValid (with_update settings update).runtime.config
unfolding update_of
config_valid settings zone dict update valid is =
    let config = settings.runtime.config in
    let found = then_ok _ (look_up config zone) update is in
    let place = found.0.place in
    let told = then_ok _ (zone_told config (others config.zones place) found.0.zone dict) update found.2 in
    let at = looked_up config zone found.0 found.1 in
    let fit = zone_fits config (others config.zones place) found.0.zone told.0 dict (zone_beside config place found.0.zone valid at) told.1 in
    subst (λ (u : Update). IsValid (with_update settings u).runtime.config) (inner _ update told.2) (changed_zone config place found.0.zone told.0 valid at fit.1 fit.0)

settings_valid : (settings : Settings) (zone : List ℕ) (dict : Dict) (update : Update) → AreValid settings → update_of settings zone dict ≡ Ok update → AreValid (with_update settings update)
settings_valid settings zone dict update valid is = record {
  permanent = valid.permanent;
  runtime = config_valid settings zone dict update valid.runtime is;
  timers = updated settings zone dict update is valid.timers;
  now = valid.now;
  zones = valid.zones;
  policies = valid.policies;
}

pub set_zone_settings_valid : (settings : Settings) (zone : List ℕ) (dict : Dict) (answered : Answered Settings) → AreValid settings → set_zone_settings_member settings zone dict ≡ Ok answered
    → AreValid answered.after
unfolding set_zone_settings_member
set_zone_settings_valid settings zone dict answered valid is =
    let update = then_ok _ (update_of settings zone dict) answered is in
    subst (λ (a : Answered Settings). AreValid a.after) (inner _ answered update.2) (settings_valid settings zone dict update.0 valid update.1)
