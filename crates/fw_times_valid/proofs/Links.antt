-- Links that come and go keep the settings valid.
use Rattle.std.proofs.Common.{◌≡◌, ℕ, zero, suc, Bool, true, false, if◌then◌else◌, List, [], ◌∷◌, Option, None, Some, Ok, Err, slice_get, slice_set, find, position, refl, subst}
use Rattle.std.proofs.lemmas.Bool.{or_parts}
use Rattle.std.specs.List.{list_any}
use Rattle.std.specs.Str.{bytes_eq}
use Rattle.fw_act.specs.Acts.{replied}
use Rattle.fw_model.specs.declared.code.Code.TheVariants as code
use Rattle.fw_model.specs.declared.config.Config.{Config}
use Rattle.fw_model.specs.declared.zone.Zone.{Zone}
use Rattle.fw_rich_valid.proofs.Saying.{some_inner, some_then}
use Rattle.fw_settings.specs.Parts as parts
use Rattle.fw_settings.specs.Valid.{AreValid}
use Rattle.fw_settings.specs.declared.settings.Settings.{Settings}
use Rattle.fw_time_links.specs.Linking.{comes, goes, has_name, holder_of, home, is_home, link_gone, link_up, linked, seen, some_has}
use Rattle.fw_timer_laws.proofs.Held.{timers_stay}
use Rattle.fw_valid.specs.Valid.{IsValid}
use Rattle.fw_valid_edits.proofs.ZoneEdits.{changed_zone, zone_beside}
use Rattle.fw_valid_edits.specs.Fit.{with_zones}
use Rattle.fw_zone_edits.specs.Entries.{bound, lists, with_entry, without_entry}
use Rattle.fw_zone_edits.specs.Zones.{Found}
use Rattle.fw_zone_edits.specs.declared.entry.Entry.TheVariants as entry
use Rattle.fw_zone_laws.proofs.Entries.{bound_valid}
use Rattle.fw_zone_laws.proofs.Lists.{in_less, once_less}
use Rattle.fw_zone_laws.proofs.Zones.{found_there}

-- a zone in force has other interfaces
entries_changed : (settings : Settings) (found : Found) (interfaces : List (List ℕ)) → AreValid settings → slice_get settings.runtime.config.zones found.place ≡ Some found.zone
    → IsValid (with_zones settings.runtime.config (slice_set settings.runtime.config.zones found.place (record found.zone { interfaces = interfaces })))
    → AreValid (parts.with_zones settings (slice_set settings.runtime.config.zones found.place (record found.zone { interfaces = interfaces })))
entries_changed settings found interfaces valid at runtime =
    let config = settings.runtime.config in
    let new = record found.zone { interfaces = interfaces } in
    record {
      permanent = valid.permanent;
      runtime = runtime;
      timers = timers_stay config found.place found.zone new settings.timers at refl refl valid.timers;
      now = valid.now;
      zones = valid.zones;
      policies = valid.policies;
    }

-- where no item passes a test, none that stands at a place does
none_at : {A : Type 0} (test : A → Bool) (items : List A) (place : ℕ) (item : A) → list_any test items ≡ false → slice_get items place ≡ Some item → test item ≡ false
none_at test [] place item none at = cc
none_at {A} test (first ∷ others) zero item none at =
    subst (λ (one : A). test one ≡ false) (some_inner first item at) (or_parts (test first) (list_any test others) none).0
none_at test (first ∷ others) (suc place) item none at = none_at test others place item (or_parts (test first) (list_any test others) none).1 at

come_valid : (config : Config) (name : List ℕ) (found : Found) → IsValid config → some_has name config.zones ≡ false → slice_get config.zones found.place ≡ Some found.zone
    → IsValid (with_zones config (slice_set config.zones found.place (with_entry found.zone (entry.Interface name))))
unfolding bound
come_valid config name found valid none at =
    bound_valid config found valid at (entry.Interface name) (slice_set config.zones found.place (with_entry found.zone (entry.Interface name))) tt
    (is_bound (lists (entry.Interface name) found.zone) (none_at (has_name name) config.zones found.place found.zone none at) (list_any (lists (entry.Interface name)) config.zones) none)
  where
    is_bound : (here : Bool) → here ≡ false → (anywhere : Bool) → anywhere ≡ false
        → (if here then Err code.ZoneAlreadySet
        else (if anywhere then Err code.ZoneConflict else Ok (slice_set config.zones found.place (with_entry found.zone (entry.Interface name)))))
        ≡ Ok (slice_set config.zones found.place (with_entry found.zone (entry.Interface name)))
    is_bound true here_is anywhere is = cc
    is_bound false here_is true is = cc
    is_bound false here_is false is = refl

-- the zone to which a link comes is in force
home_there : (in_force permanent : List Zone) (name : List ℕ) (found : Found) → home in_force permanent name ≡ Some found → slice_get in_force found.place ≡ Some found.zone
home_there in_force permanent name found is =
    let zone = some_then _ (find (is_home in_force name) permanent) found is in
    found_there in_force zone.0.name found zone.2

up_valid : (settings : Settings) (name : List ℕ) → AreValid settings → AreValid (link_up settings name).after
unfolding link_up
up_valid settings name valid = by (some_has name settings.runtime.config.zones) refl
  where
    came : (found : Option Found) → home settings.runtime.config.zones settings.permanent.zones name ≡ found → some_has name settings.runtime.config.zones ≡ false → AreValid (comes settings name found).after
    came None is none = valid
    came (Some found) is none =
        let at = home_there settings.runtime.config.zones settings.permanent.zones name found is in
        entries_changed settings found _ valid at (come_valid settings.runtime.config name found valid.runtime none at)

    by : (known : Bool) → some_has name settings.runtime.config.zones ≡ known
        → AreValid (if known then replied settings seen else comes settings name (home settings.runtime.config.zones settings.permanent.zones name)).after
    by true is = valid
    by false is = came (home settings.runtime.config.zones settings.permanent.zones name) refl is

go_valid : (config : Config) (name : List ℕ) (found : Found) → IsValid config → slice_get config.zones found.place ≡ Some found.zone
    → IsValid (with_zones config (slice_set config.zones found.place (without_entry found.zone (entry.Interface name))))
go_valid config name found valid at =
    let fit = zone_beside config found.place found.zone valid at in
    changed_zone config found.place found.zone (without_entry found.zone (entry.Interface name)) valid at refl (record {
      rules = fit.rules;
      sets = fit.sets;
      interfaces_once = once_less bytes_eq found.zone.interfaces name fit.interfaces_once;
      sources_once = fit.sources_once;
      interfaces_free = λ one there. fit.interfaces_free one (in_less bytes_eq one name found.zone.interfaces there);
      sources_free = fit.sources_free;
    })

holder_there : (zones : List Zone) (name : List ℕ) (found : Found) → holder_of zones name ≡ Some found → slice_get zones found.place ≡ Some found.zone
holder_there zones name found is =
    let place = some_then _ (position (has_name name) zones) found is in
    let zone = some_then _ (slice_get zones place.0) found place.2 in
    subst (λ (found : Found). slice_get zones found.place ≡ Some found.zone) (some_inner _ found zone.2) zone.1

gone_valid : (settings : Settings) (name : List ℕ) → AreValid settings → AreValid (link_gone settings name).after
unfolding link_gone
gone_valid settings name valid = by (some_has name settings.permanent.zones)
  where
    went : (found : Option Found) → holder_of settings.runtime.config.zones name ≡ found → AreValid (goes settings name found).after
    went None is = valid
    went (Some found) is =
        let at = holder_there settings.runtime.config.zones name found is in
        entries_changed settings found _ valid at (go_valid settings.runtime.config name found valid.runtime at)

    by : (known : Bool) → AreValid (if known then replied settings seen else goes settings name (holder_of settings.runtime.config.zones name)).after
    by true = valid
    by false = went (holder_of settings.runtime.config.zones name) refl

pub link_valid : (settings : Settings) (up : Bool) (name : List ℕ) → AreValid settings → AreValid (linked settings up name).after
link_valid settings true name valid = up_valid settings name valid
link_valid settings false name valid = gone_valid settings name valid
