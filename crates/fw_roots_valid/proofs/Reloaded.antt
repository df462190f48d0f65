-- The permanent settings come into force, and what is in force is valid.
use Rattle.std.proofs.Common.{◌≡◌, ◌∙◌, ◌⊎◌, inl, inr, ℕ, List, [], ◌∷◌, map, not, Option, None, Some, slice_get, refl, sym, ap, subst}
use Rattle.fw_model.specs.declared.config.Config.{Config}
use Rattle.fw_model.specs.declared.zone.Zone.{Zone}
use Rattle.fw_root_members.specs.Reloading.{bound_nowhere, interfaces, interfaces_of, is_bound, reloaded, reloaded_config, with_stayed}
use Rattle.fw_roots_valid.proofs.Bound.{holder, not_nowhere}
use Rattle.fw_roots_valid.proofs.Lists.{in_either, mapped_at, once_joined, one_place, same_item}
use Rattle.fw_settings.specs.Valid.{AreValid}
use Rattle.fw_settings.specs.declared.settings.Settings.{Settings}
use Rattle.fw_timer_laws.proofs.Passed.{once_passed}
use Rattle.fw_times_valid.proofs.Ended.{found_named}
use Rattle.fw_times_valid.proofs.Kept.{was_kept}
use Rattle.fw_valid.specs.Each.{IsWithoutRepeats}
use Rattle.fw_valid.specs.Names.{AreNames, any, host}
use Rattle.fw_valid.specs.Valid.{IsInOneZone, IsValid}
use Rattle.fw_valid_edits.proofs.Edited.{all_each, each_in, each_mapped}
use Rattle.fw_valid_edits.proofs.Entries.{stands}
use Rattle.fw_valid_edits.proofs.ZoneEdits.{IsSound, all_known, all_sound, name_of, valid_with}
use Rattle.fw_zone.specs.Bindings.{interfaces_of as zone_interfaces, sources_of, with_interfaces, with_sources}
use Rattle.fw_zone.specs.Lists.{IsIn}
use Rattle.fw_zone_edits.specs.Zones.{Found, zone_named}
use Rattle.fw_zone_laws.proofs.Zones.{found_there}

module _ (permanent in_force : Config) (kept : IsValid permanent) (was : IsValid in_force) where
  abbrev stayed : Zone → Zone
  stayed = with_stayed permanent.zones in_force.zones

  -- the interfaces of a zone that stay
  abbrev staying : Zone → List (List ℕ)
  staying zone = bound_nowhere permanent.zones (interfaces_of in_force.zones zone.name)

  names_again : (zones : List Zone) → map name_of (map stayed zones) ≡ map name_of zones
  names_again [] = refl
  names_again (zone ∷ zones) = ap (λ rest. zone.name ∷ rest) (names_again zones)

  identity : {A : Type 0} (items : List A) → map (λ (item : A). item) items ≡ items
  identity [] = refl
  identity (item ∷ items) = ap (λ rest. item ∷ rest) (identity items)

  found_once : (named : Option Found) (name : List ℕ) → zone_named in_force.zones name ≡ named → IsWithoutRepeats (interfaces named)
  found_once None name is = tt
  found_once (Some found) name is =
      each_in (λ (zone : Zone). IsWithoutRepeats zone.interfaces) in_force.zones found.zone was.no_repeats.interfaces
      (stands in_force.zones found.place found.zone (found_there in_force.zones name found is))

  staying_once : (zone : Zone) → IsWithoutRepeats (staying zone)
  staying_once zone =
      let names = interfaces_of in_force.zones zone.name in
      subst IsWithoutRepeats (identity (staying zone))
      (once_passed (λ (name : List ℕ). name) (λ (name : List ℕ). not (is_bound permanent.zones name)) names
      (subst IsWithoutRepeats (sym (identity names)) (found_once (zone_named in_force.zones zone.name) zone.name refl)))

  stayed_sound : (zone : Zone) → IsIn zone permanent.zones → IsSound permanent zone → IsSound permanent (stayed zone)
  stayed_sound zone there is = record {
    rules = is.rules;
    sets = is.sets;
    interfaces = once_joined zone.interfaces (staying zone) is.interfaces (staying_once zone) (λ name listed. not_nowhere permanent.zones (interfaces_of in_force.zones zone.name) zone name there listed);
    sources = is.sources;
  }

  -- an interface of a zone in force stays in one zone
  stays_in_one : (entry : List ℕ) (one other : Zone) → IsIn entry (interfaces_of in_force.zones one.name) → IsIn entry (interfaces_of in_force.zones other.name) → one.name ≡ other.name
  stays_in_one entry one other listed also =
      let here = holder in_force.zones one.name entry listed in
      let there = holder in_force.zones other.name entry also in
      let at = found_there in_force.zones one.name here.0 here.1 in
      let too = found_there in_force.zones other.name there.0 there.1 in
      let place = was.interfaces entry here.0.place there.0.place (record { zone = here.0.zone; at = at; lists = here.2 }) (record { zone = there.0.zone; at = too; lists = there.2 }) in
      let same = same_item here.0.zone there.0.zone (sym at ∙ (ap (λ (place : ℕ). slice_get in_force.zones place) place ∙ too)) in
      sym (found_named in_force.zones one.name here.0 here.1) ∙ (ap (λ (zone : Zone). zone.name) same ∙ found_named in_force.zones other.name there.0 there.1)

  -- the interfaces that zones list, one way or the other, stand in one zone
  from_kept : (entry : List ℕ) (zone : Zone) → IsIn entry (staying zone) → IsIn entry (interfaces_of in_force.zones zone.name)
  from_kept entry zone found = (was_kept (λ (name : List ℕ). not (is_bound permanent.zones name)) (interfaces_of in_force.zones zone.name) entry found).0

  interfaces_apart : IsInOneZone zone_interfaces with_interfaces (map stayed permanent.zones)
  interfaces_apart entry one other first second =
      let here = mapped_at stayed permanent.zones one first.zone first.at in
      let there = mapped_at stayed permanent.zones other second.zone second.at in
      by here.0 there.0 here.1 there.1
      (in_either here.0.interfaces (staying here.0) entry (subst (λ (zone : Zone). IsIn entry zone.interfaces) (sym here.2) first.lists))
      (in_either there.0.interfaces (staying there.0) entry (subst (λ (zone : Zone). IsIn entry zone.interfaces) (sym there.2) second.lists))
    where
      by : (zone also : Zone) → slice_get permanent.zones one ≡ Some zone → slice_get permanent.zones other ≡ Some also
          → (IsIn entry zone.interfaces ⊎ IsIn entry (staying zone)) → (IsIn entry also.interfaces ⊎ IsIn entry (staying also)) → one ≡ other
      by zone also at too (inl listed) (inl there) = kept.interfaces entry one other (record { zone = zone; at = at; lists = listed }) (record { zone = also; at = too; lists = there })
      by zone also at too (inl listed) (inr there) = absurd (not_nowhere permanent.zones (interfaces_of in_force.zones also.name) zone entry (stands permanent.zones one zone at) listed there)
      by zone also at too (inr stays) (inl there) = absurd (not_nowhere permanent.zones (interfaces_of in_force.zones zone.name) also entry (stands permanent.zones other also too) there stays)
      by zone also at too (inr stays) (inr there) =
          one_place name_of permanent.zones one other zone also kept.names.zones.unique at too (stays_in_one entry zone also (from_kept entry zone stays) (from_kept entry also there))

  sources_apart : IsInOneZone sources_of with_sources (map stayed permanent.zones)
  sources_apart entry one other first second =
      let here = mapped_at stayed permanent.zones one first.zone first.at in
      let there = mapped_at stayed permanent.zones other second.zone second.at in
      kept.sources entry one other
      (record { zone = here.0; at = here.1; lists = subst (λ (zone : Zone). IsIn entry zone.sources) (sym here.2) first.lists })
      (record { zone = there.0; at = there.1; lists = subst (λ (zone : Zone). IsIn entry zone.sources) (sym there.2) second.lists })

  pub reloaded_config_valid : IsValid (reloaded_config permanent in_force)
  reloaded_config_valid =
      let named = sym (names_again permanent.zones) in
      valid_with permanent (map stayed permanent.zones) kept (record {
        names = subst AreNames named kept.names.zones;
        no_host = subst (λ (names : List (List ℕ)). ¬ (IsIn host names)) named kept.names.no_host;
        no_any = subst (λ (names : List (List ℕ)). ¬ (IsIn any names)) named kept.names.no_any;
        default_zone = subst (λ (names : List (List ℕ)). IsIn permanent.default_zone names) named kept.default_zone;
        in_policies = all_known permanent (map stayed permanent.zones) (λ name found. subst (λ (names : List (List ℕ)). IsIn name names) named found);
        interfaces = interfaces_apart;
        sources = sources_apart;
        each = each_mapped stayed (IsSound permanent) permanent.zones (all_each (λ (zone : Zone). IsSound permanent (stayed zone)) permanent.zones
            (λ zone there. stayed_sound zone there (each_in (IsSound permanent) permanent.zones zone (all_sound permanent kept) there)));
      })

pub reloaded_valid : (settings : Settings) → AreValid settings → AreValid (reloaded settings)
unfolding reloaded
reloaded_valid settings valid = record {
  permanent = valid.permanent;
  runtime = reloaded_config_valid settings.permanent settings.runtime.config valid.permanent valid.runtime;
  timers = record { held = tt; once = tt; in_time = tt };
  now = valid.now;
  zones = valid.zones;
  policies = valid.policies;
}
