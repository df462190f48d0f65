-- A zone of a valid configuration with one setting more, with one less, and with its ICMP blocks inverted or not.
use Rattle.std.proofs.Common.{◌≡◌, ℕ, Bool, true, false, if◌then◌else◌, List, Some, None, Option, Result, Ok, Err, slice_get, slice_set, remove, sym, subst, ◌∙◌, refl, position, option_and_then}
use Rattle.std.specs.Str.{bytes_eq}
use Rattle.fw_model.specs.declared.code.Code.TheVariants as code
use Rattle.fw_model.specs.declared.config.Config.{Config}
use Rattle.fw_model.specs.declared.rules.Rules.{Rules}
use Rattle.fw_model.specs.declared.setting.Setting.{Setting}
use Rattle.fw_model.specs.declared.zone.Zone.{Zone}
use Rattle.fw_valid.specs.Valid.{IsValid}
use Rattle.fw_valid_edits.proofs.ZoneEdits.{changed_zone, zone_beside}
use Rattle.fw_valid_edits.specs.Fit.{AreFit, IsFitZone, with_zones}
use Rattle.fw_zone.specs.Settings.{with_setting}
use Rattle.fw_zone_edits.proofs.Plain.{there}
use Rattle.fw_zone_edits.specs.Settings.{added_at, edited, has, removed_at, without_setting}
use Rattle.fw_zone_edits.specs.Zones.{Found, zone_named}
use Rattle.fw_zone_laws.proofs.Fewer.{rules_without}
use Rattle.fw_zone_laws.proofs.Settings.{rules_with}
use Rattle.fw_zone_laws.specs.Settings.{IsSetting}

same_found : {A : Type 0} (one other : A) → Some one ≡ Some other → one ≡ other
same_found one other is = cc

same_done : {A E : Type 0} (one other : A) (did : Result A E) → did ≡ Ok one → did ≡ Ok other → one ≡ other
same_done one other did is also = cc

-- the zone that was found stands at its place
pub found_there : (zones : List Zone) (name : List ℕ) (found : Found) → zone_named zones name ≡ Some found → slice_get zones found.place ≡ Some found.zone
found_there zones name found is = by_place (position (λ zone. bytes_eq zone.name name) zones) is
  where
    by_zone : (place : ℕ) (at : Option Zone) → slice_get zones place ≡ at → option_and_then (λ zone. Some (record { place = place; zone = zone })) at ≡ Some found → slice_get zones found.place ≡ Some found.zone
    by_zone place None there is = cc
    by_zone place (Some zone) there is = subst (λ (found : Found). slice_get zones found.place ≡ Some found.zone) (same_found (record { place = place; zone = zone }) found is) there

    by_place : (place : Option ℕ) → option_and_then (λ place. option_and_then (λ zone. Some (record { place = place; zone = zone })) (slice_get zones place)) place ≡ Some found → slice_get zones found.place ≡ Some found.zone
    by_place None is = cc
    by_place (Some place) is = by_zone place (slice_get zones place) refl is

module _ (config : Config) (found : Found) (valid : IsValid config) (at : slice_get config.zones found.place ≡ Some found.zone) where
  fit : IsFitZone config (remove config.zones found.place) found.zone
  fit = zone_beside config found.place found.zone valid at

  -- with other settings that fit
  pub rules_changed : (rules : Rules) → AreFit config rules → IsValid (with_zones config (slice_set config.zones found.place (record found.zone { rules = rules })))
  rules_changed rules are = changed_zone config found.place found.zone (record found.zone { rules = rules }) valid at refl (record {
    rules = are;
    sets = fit.sets;
    interfaces_once = fit.interfaces_once;
    sources_once = fit.sources_once;
    interfaces_free = fit.interfaces_free;
    sources_free = fit.sources_free;
  })

  -- with its ICMP blocks inverted, or not
  pub inversion_changed : (inversion : Bool) → IsValid (with_zones config (slice_set config.zones found.place (record found.zone { inversion = inversion })))
  inversion_changed inversion = changed_zone config found.place found.zone (record found.zone { inversion = inversion }) valid at refl (record {
    rules = fit.rules;
    sets = fit.sets;
    interfaces_once = fit.interfaces_once;
    sources_once = fit.sources_once;
    interfaces_free = fit.interfaces_free;
    sources_free = fit.sources_free;
  })

  pub added_valid : (one : Setting) (zones : List Zone) → IsSetting config one → added_at config.zones found one ≡ Ok zones → IsValid (with_zones config zones)
  unfolding added_at
  added_valid one zones is_setting is = by (has found.zone.rules one) refl is
    where
      by : (b : Bool) → has found.zone.rules one ≡ b
          → edited config.zones found.place (if b then Err code.AlreadyEnabled else Ok (record found.zone { rules = with_setting found.zone.rules one })) ≡ Ok zones → IsValid (with_zones config zones)
      by true has_is is = cc
      by false has_is is =
          subst (λ zones. IsValid (with_zones config zones)) (same_done _ zones _ refl is)
          (rules_changed (with_setting found.zone.rules one) (rules_with config found.zone.rules fit.rules one is_setting (λ is_there. let impossible = sym has_is ∙ there found.zone.rules one is_there in cc)))

  pub removed_valid : (one : Setting) (zones : List Zone) → removed_at config.zones found one ≡ Ok zones → IsValid (with_zones config zones)
  unfolding removed_at
  removed_valid one zones is = by (has found.zone.rules one) refl is
    where
      by : (b : Bool) → has found.zone.rules one ≡ b
          → edited config.zones found.place (if b then Ok (record found.zone { rules = without_setting found.zone.rules one }) else Err code.NotEnabled) ≡ Ok zones → IsValid (with_zones config zones)
      by true has_is is =
          subst (λ zones. IsValid (with_zones config zones)) (same_done _ zones _ refl is) (rules_changed (without_setting found.zone.rules one) (rules_without config found.zone.rules fit.rules one))
      by false has_is is = cc
