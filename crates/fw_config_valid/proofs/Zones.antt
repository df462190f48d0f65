-- Calls that add, change and remove permanent zones keep the settings valid.
use Rattle.std.proofs.Common.{◌≡◌, ◌≢◌, ◌∙◌, ℕ, ◌≤◌, Bool, true, false, not, ◌&&◌, List, [], ◌∷◌, ◌++◌, Some, Ok, IsTrue, slice_get, slice_set, remove, refl, sym, subst}
use Rattle.std.proofs.lemmas.Bool.{both_ways, false≢true, not-true, or_parts}
use Rattle.std.proofs.lemmas.List.{length-set}
use Rattle.std.proofs.lemmas.Slice.Eq.{bytes_eq-Decides}
use Rattle.std.specs.Fmt.{decimal}
use Rattle.std.specs.List.{list_any}
use Rattle.std.specs.Str.{bytes_eq}
use Rattle.fw_act.specs.Acts.{Answered, required}
use Rattle.fw_addr.specs.WellFormed.{is_name}
use Rattle.fw_answer.proofs.Equality as equality
use Rattle.fw_answer.specs.Lists.{is_in}
use Rattle.fw_calls.specs.declared.dict.Dict.{Dict}
use Rattle.fw_config_members.specs.Adding.{add_zone_member, added_zone, has_zone, may_name_zone, with_zone}
use Rattle.fw_config_valid.proofs.Named.{no_zone}
use Rattle.fw_config_valid.proofs.Numbers.{numbers_kept, numbers_pushed, numbers_removed}
use Rattle.fw_dicts.specs.Zones.{new_zone, others, zone_told}
use Rattle.fw_dicts_valid.proofs.Added.{absent}
use Rattle.fw_dicts_valid.proofs.Steps.{holds, inner, then_ok, was_found}
use Rattle.fw_dicts_valid.proofs.Zones.{new_zone_fits, zone_fits}
use Rattle.fw_model.specs.declared.code.Code.TheVariants as code
use Rattle.fw_model.specs.declared.config.Config.{Config}
use Rattle.fw_model.specs.declared.policy.Policy.{Policy}
use Rattle.fw_model.specs.declared.zone.Zone.{Zone}
use Rattle.fw_object_members.specs.Objects.{place_of, zone_meant, zone_numbered}
use Rattle.fw_object_members.specs.Zones.{is_built_in, is_needed, names_zone, removable_zone, remove_zone_member, update_zone_member, with_zone_at, without_zone_at}
use Rattle.fw_rich_valid.proofs.Saying.{some_inner, some_then}
use Rattle.fw_settings.specs.Valid.{AreValid, last_number}
use Rattle.fw_settings.specs.declared.settings.Settings.{Settings}
use Rattle.fw_valid.specs.Each.{Each}
use Rattle.fw_valid.specs.Names.{any, host, zone_names}
use Rattle.fw_valid.specs.Valid.{IsValid}
use Rattle.fw_valid_edits.proofs.ZoneEdits as edits
use Rattle.fw_zone.specs.Lists.{IsIn}
use Rattle.fw_zone_edits.specs.Zones.{Found}

three_hold : (one two three : Bool) → (one && two && three) ≡ true → (one ≡ true) × ((two ≡ true) × (three ≡ true))
three_hold true true true is = (refl, (refl, refl))
three_hold true true false is = absurd (false≢true is)
three_hold true false three is = absurd (false≢true is)
three_hold false two three is = absurd (false≢true is)

other_name : (name other : List ℕ) → not (bytes_eq name other) ≡ true → name ≢ other
other_name name other is same = both_ways (bytes_eq name other) (not-true (bytes_eq name other) is) ((bytes_eq-Decides name other).1 same)

-- a zone that is added keeps the permanent settings valid
added_valid : (config : Config) (name : List ℕ) (dict : Dict) (zone : Zone) → IsValid config → added_zone config name dict ≡ Ok zone → IsValid (record config { zones = config.zones ++ zone ∷ [] })
unfolding added_zone
added_valid config name dict zone valid is =
    let formed = then_ok _ (required (may_name_zone name) code.InvalidName name) zone is in
    let free = then_ok _ (required (not (has_zone config name)) code.NameConflict name) zone formed.2 in
    let names = three_hold (is_name name) (not (bytes_eq name host)) (not (bytes_eq name any)) (holds (may_name_zone name) code.InvalidName name formed.0 formed.1) in
    let fresh = no_zone config.zones name (not-true (has_zone config name) (holds (not (has_zone config name)) code.NameConflict name free.0 free.1)) in
    let fit = zone_fits config config.zones (new_zone name) zone dict (new_zone_fits config config.zones name) free.2 in
    edits.added_zone config zone valid (subst (λ (name : List ℕ). IsTrue (is_name name)) (sym fit.1) names.0)
    (λ same. other_name name host names.1.0 (sym fit.1 ∙ same)) (λ same. other_name name any names.1.1 (sym fit.1 ∙ same))
    (subst (λ (name : List ℕ). ¬ (IsIn name (zone_names config))) (sym fit.1) fresh) fit.0

settings_with : (settings : Settings) (zone : Zone) → AreValid settings → settings.next_zone ≤ last_number → IsValid (record settings.permanent { zones = settings.permanent.zones ++ zone ∷ [] }) → AreValid (with_zone settings zone)
unfolding with_zone
settings_with settings zone valid most permanent = record {
  permanent = permanent;
  runtime = valid.runtime;
  timers = valid.timers;
  now = valid.now;
  zones = numbers_pushed settings.permanent.zones zone settings.zone_ids settings.next_zone most valid.zones;
  policies = valid.policies;
}

pub add_zone : (settings : Settings) (name : List ℕ) (dict : Dict) (answered : Answered Settings) → AreValid settings → settings.next_zone ≤ last_number → add_zone_member settings name dict ≡ Ok answered → AreValid answered.after
unfolding add_zone_member
add_zone settings name dict answered valid most is =
    let made = then_ok _ (added_zone settings.permanent name dict) answered is in
    subst (λ (answered : Answered Settings). AreValid answered.after) (inner _ answered made.2)
    (settings_with settings made.0 valid most (added_valid settings.permanent name dict made.0 valid.permanent made.1))

-- the zone that a number means
meant_at : (settings : Settings) (number : ℕ) (found : Found) → zone_meant settings number ≡ Ok found → slice_get settings.permanent.zones found.place ≡ Some found.zone
unfolding zone_meant
meant_at settings number found is =
    let numbered = was_found code.InvalidZone (decimal number) (zone_numbered settings number) found is in
    let place = some_then _ (place_of settings.zone_ids number) found numbered in
    let zone = some_then _ (slice_get settings.permanent.zones place.0) found place.2 in
    subst (λ (found : Found). slice_get settings.permanent.zones found.place ≡ Some found.zone) (some_inner _ found zone.2) zone.1

settings_at : (settings : Settings) (place : ℕ) (zone : Zone) → AreValid settings → IsValid (record settings.permanent { zones = slice_set settings.permanent.zones place zone }) → AreValid (with_zone_at settings place zone)
unfolding with_zone_at
settings_at settings place zone valid permanent = record {
  permanent = permanent;
  runtime = valid.runtime;
  timers = valid.timers;
  now = valid.now;
  zones = numbers_kept _ _ settings.zone_ids settings.next_zone (sym (length-set settings.permanent.zones place zone)) valid.zones;
  policies = valid.policies;
}

pub update_zone : (settings : Settings) (number : ℕ) (dict : Dict) (answered : Answered Settings) → AreValid settings → update_zone_member settings number dict ≡ Ok answered → AreValid answered.after
unfolding update_zone_member
update_zone settings number dict answered valid is =
    let found = then_ok _ (zone_meant settings number) answered is in
    let place = found.0.place in
    let told = then_ok _ (zone_told settings.permanent (others settings.permanent.zones place) found.0.zone dict) answered found.2 in
    let at = meant_at settings number found.0 found.1 in
    let fit = zone_fits settings.permanent (others settings.permanent.zones place) found.0.zone told.0 dict (edits.zone_beside settings.permanent place found.0.zone valid.permanent at) told.1 in
    subst (λ (answered : Answered Settings). AreValid answered.after) (inner _ answered told.2)
    (settings_at settings place told.0 valid (edits.changed_zone settings.permanent place found.0.zone told.0 valid.permanent at fit.1 fit.0))

-- no policy names a zone
abbrev Unnamed : (name : List ℕ) → Policy → Type 0
Unnamed name policy = (¬ (IsIn name policy.ingress)) × (¬ (IsIn name policy.egress))

unnamed : (name : List ℕ) (policies : List Policy) → list_any (names_zone name) policies ≡ false → Each (Unnamed name) policies
unnamed name [] none = tt
unnamed name (policy ∷ policies) none =
    let parts = or_parts (names_zone name policy) (list_any (names_zone name) policies) none in
    let sides = or_parts (is_in bytes_eq name policy.ingress) (is_in bytes_eq name policy.egress) parts.0 in
    ((absent bytes_eq equality.texts name policy.ingress sides.0, absent bytes_eq equality.texts name policy.egress sides.1), unnamed name policies parts.1)

not_needed : (config : Config) (name : List ℕ) → is_needed config name ≡ false → (config.default_zone ≢ name) × Each (Unnamed name) config.policies
unfolding is_needed
not_needed config name none =
    let parts = or_parts (bytes_eq config.default_zone name) (list_any (names_zone name) config.policies) none in
    ((λ same. both_ways (bytes_eq config.default_zone name) parts.0 ((bytes_eq-Decides config.default_zone name).1 same)), unnamed name config.policies parts.1)

-- a zone that may be removed
record MayGo (settings : Settings) (place : ℕ) : Type 0 where
  zone : Zone
  at : slice_get settings.permanent.zones place ≡ Some zone
  unused : is_needed settings.permanent zone.name ≡ false

may_go : (settings : Settings) (number place : ℕ) → removable_zone settings number ≡ Ok place → MayGo settings place
unfolding removable_zone
may_go settings number place is =
    let found = then_ok _ (zone_meant settings number) place is in
    let own = then_ok _ (required (not (is_built_in found.0.zone.name)) code.BuiltinZone (decimal number)) place found.2 in
    let unused = then_ok _ (required (not (is_needed settings.permanent found.0.zone.name)) code.InvalidZone (decimal number)) place own.2 in
    subst (MayGo settings) (inner found.0.place place unused.2) (record {
      zone = found.0.zone;
      at = meant_at settings number found.0 found.1;
      unused = not-true (is_needed settings.permanent found.0.zone.name) (holds (not (is_needed settings.permanent found.0.zone.name)) code.InvalidZone (decimal number) unused.0 unused.1);
    })

settings_without : (settings : Settings) (place : ℕ) → AreValid settings → IsValid (record settings.permanent { zones = remove settings.permanent.zones place }) → AreValid (without_zone_at settings place)
unfolding without_zone_at
settings_without settings place valid permanent = record {
  permanent = permanent;
  runtime = valid.runtime;
  timers = valid.timers;
  now = valid.now;
  zones = numbers_removed settings.permanent.zones settings.zone_ids settings.next_zone place valid.zones;
  policies = valid.policies;
}

pub remove_zone : (settings : Settings) (number : ℕ) (answered : Answered Settings) → AreValid settings → remove_zone_member settings number ≡ Ok answered → AreValid answered.after
unfolding remove_zone_member
remove_zone settings number answered valid is =
    let place = then_ok _ (removable_zone settings number) answered is in
    let gone = may_go settings number place.0 place.1 in
    let free = not_needed settings.permanent gone.zone.name gone.unused in
    subst (λ (answered : Answered Settings). AreValid answered.after) (inner _ answered place.2)
    (settings_without settings place.0 valid (edits.removed_zone settings.permanent place.0 gone.zone valid.permanent gone.at free.0 free.1))
