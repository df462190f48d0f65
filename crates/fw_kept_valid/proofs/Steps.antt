-- Steps of members on zones in force, where none of them refused, and what they leave.
use Rattle.std.proofs.Common.{◌≡◌, ℕ, List, Result, Ok, Err, Some, slice_get, ap}
use Rattle.fw_act.specs.Acts.{refused_as}
use Rattle.fw_dicts_valid.proofs.Steps.{inner, was_found}
use Rattle.fw_model.specs.declared.code.Code.TheVariants as code
use Rattle.fw_model.specs.declared.code.Code.{Code}
use Rattle.fw_model.specs.declared.config.Config.{Config}
use Rattle.fw_model.specs.declared.setting.Timed.{Timed}
use Rattle.fw_model.specs.declared.zone.Zone.{Zone}
use Rattle.fw_settings.specs.Parts.{with_timers, with_zones}
use Rattle.fw_settings.specs.Valid.{AreTimers, AreValid}
use Rattle.fw_settings.specs.declared.settings.Settings.{Settings}
use Rattle.fw_valid.specs.Valid.{IsValid}
use Rattle.fw_zone_edits.specs.Zones.{Found, meant, zone_meant}
use Rattle.fw_zone_laws.proofs.Zones.{found_there}
use Rattle.fw_zone_members.specs.Reading.{look_up}

pub same_ok : {A E : Type 0} (one other : A) (did : Result A E) → did ≡ Ok one → did ≡ Ok other → one ≡ other
same_ok one other did is also = cc

-- the zone that a call names stands at its place
pub looked_up : (config : Config) (name : List ℕ) (found : Found) → look_up config name ≡ Ok found → slice_get config.zones found.place ≡ Some found.zone
unfolding look_up
looked_up config name found is = found_there config.zones (meant config name) found (was_found code.InvalidZone name (zone_meant config name) found is)

-- an edit that wasn't refused
pub was_made : {A : Type 0} (subject : List ℕ) (made : Result A Code) (one : A) → refused_as subject made ≡ Ok one → made ≡ Ok one
was_made subject (Ok other) one is = ap Ok (inner other one is)
was_made subject (Err code) one is = cc

-- settings with other zones and timers in force
pub valid_after : (settings : Settings) (zones : List Zone) (timers : List Timed) → AreValid settings → IsValid (record settings.runtime.config { zones = zones })
    → AreTimers (record settings.runtime.config { zones = zones }) timers → AreValid (with_timers (with_zones settings zones) timers)
valid_after settings zones timers valid config are = record {
  permanent = valid.permanent;
  runtime = config;
  timers = are;
  now = valid.now;
  zones = valid.zones;
  policies = valid.policies;
}
