-- Settings of zones that end keep a configuration valid.
use Rattle.std.proofs.Common.{◌≡◌, ◌∙◌, ℕ, true, List, [], ◌∷◌, length, Option, None, Some, slice_get, position, refl, subst}
use Rattle.std.proofs.lemmas.List.Quantifiers.{position-Some}
use Rattle.std.proofs.lemmas.List.{length-set}
use Rattle.std.proofs.lemmas.Option.{get_or_from_slice_get}
use Rattle.std.proofs.lemmas.Slice.Eq.{bytes_eq-Decides}
use Rattle.std.specs.Str.{bytes_eq}
use Rattle.fw_model.specs.declared.config.Config.{Config}
use Rattle.fw_model.specs.declared.setting.Timed.{Timed}
use Rattle.fw_model.specs.declared.zone.Zone.{Zone}
use Rattle.fw_rich_valid.proofs.Saying.{some_inner, some_then}
use Rattle.fw_valid.specs.Valid.{IsValid}
use Rattle.fw_valid_edits.proofs.ZoneEdits.{zone_beside}
use Rattle.fw_valid_edits.specs.Fit.{with_zones}
use Rattle.fw_zone_edits.specs.Endings.{all_ended, ended, ended_in}
use Rattle.fw_zone_edits.specs.Settings.{without_setting}
use Rattle.fw_zone_edits.specs.Zones.{Found, zone_named}
use Rattle.fw_zone_laws.proofs.Fewer.{rules_without}
use Rattle.fw_zone_laws.proofs.Zones.{found_there, rules_changed}

-- the zone that is found by a name has it
pub found_named : (zones : List Zone) (name : List ℕ) (found : Found) → zone_named zones name ≡ Some found → found.zone.name ≡ name
found_named zones name found is =
    let place = some_then _ (position (λ (zone : Zone). bytes_eq zone.name name) zones) found is in
    let zone = some_then _ (slice_get zones place.0) found place.2 in
    let first = position-Some (λ (zone : Zone). bytes_eq zone.name name) zones place.0 zone.0 place.1 in
    let passes = subst (λ (one : Zone). bytes_eq one.name name ≡ true) (get_or_from_slice_get zones place.0 zone.0 zone.0 zone.1) first.1 in
    subst (λ (found : Found). found.zone.name ≡ name) (some_inner _ found zone.2) ((bytes_eq-Decides zone.0.name name).0 passes)

ended_valid : (config : Config) (timed : Timed) → IsValid config → IsValid (with_zones config (ended config.zones timed))
ended_valid config timed valid = by (zone_named config.zones timed.zone) refl
  where
    by : (named : Option Found) → zone_named config.zones timed.zone ≡ named → IsValid (with_zones config (ended_in config.zones timed named))
    by None is = valid
    by (Some found) is =
        let at = found_there config.zones timed.zone found is in
        rules_changed config found valid at (without_setting found.zone.rules timed.setting)
        (rules_without config found.zone.rules (zone_beside config found.place found.zone valid at).rules timed.setting)

pub all_ended_valid : (config : Config) (timers : List Timed) → IsValid config → IsValid (with_zones config (all_ended config.zones timers))
all_ended_valid config [] valid = valid
all_ended_valid config (timed ∷ timers) valid = all_ended_valid (with_zones config (ended config.zones timed)) timers (ended_valid config timed valid)

-- there are as many zones as before
ended_count : (zones : List Zone) (timed : Timed) (named : Option Found) → length (ended_in zones timed named) ≡ length zones
ended_count zones timed None = refl
ended_count zones timed (Some found) = length-set zones found.place (record found.zone { rules = without_setting found.zone.rules timed.setting })

pub all_ended_count : (zones : List Zone) (timers : List Timed) → length (all_ended zones timers) ≡ length zones
all_ended_count zones [] = refl
all_ended_count zones (timed ∷ timers) = all_ended_count (ended zones timed) timers ∙ ended_count zones timed (zone_named zones timed.zone)
