-- Members on interfaces and sources of zones in force keep the settings valid.
use Rattle.std.proofs.Common.{◌≡◌, ◌∙◌, ℕ, ◌⊎◌, inl, inr, Bool, true, false, if◌then◌else◌, List, Some, Ok, Err, slice_get, slice_set, refl, sym, subst}
use Rattle.std.specs.List.{list_any}
use Rattle.fw_act.specs.Acts.{Answered, refused_as}
use Rattle.fw_argument_laws.proofs.Reading.{word_read}
use Rattle.fw_calls.specs.declared.call.BindingWord.{BindingWord}
use Rattle.fw_calls.specs.declared.member.BindingVerb.TheVariants as verb
use Rattle.fw_calls.specs.declared.member.BindingVerb.{BindingVerb}
use Rattle.fw_dicts_valid.proofs.Steps.{inner, then_ok}
use Rattle.fw_kept_valid.proofs.Steps.{looked_up, same_ok, valid_after, was_made}
use Rattle.fw_kept_valid.proofs.Taken.{IsFirst, IsNone, first_elsewhere, first_or_none, none_left, other_stays}
use Rattle.fw_model.specs.declared.code.Code.TheVariants as code
use Rattle.fw_model.specs.declared.zone.Zone.{Zone}
use Rattle.fw_settings.specs.Parts.{with_zones}
use Rattle.fw_settings.specs.Valid.{AreTimers, AreValid}
use Rattle.fw_settings.specs.declared.settings.Settings.{Settings}
use Rattle.fw_timer_laws.proofs.Held.{timers_stay}
use Rattle.fw_valid_edits.proofs.ZoneEdits.{zone_beside}
use Rattle.fw_zone_edits.specs.Entries.{bound, lists, moved, taken, unbound, unknown, with_entry, without_entry}
use Rattle.fw_zone_edits.specs.Zones.{Found}
use Rattle.fw_zone_edits.specs.declared.entry.Entry.TheVariants as entries
use Rattle.fw_zone_edits.specs.declared.entry.Entry.{Entry}
use Rattle.fw_zone_laws.proofs.Entries.{bound_valid, unbound_valid}
use Rattle.fw_zone_laws.specs.Entries.{IsEntry}
use Rattle.fw_zone_members.specs.Bindings.{add_binding, binding_member, change_binding, query_binding, remove_binding}
use Rattle.fw_zone_members.specs.Reading.{entry_of, look_up}

-- a zone keeps its name and its settings
more_named : (zone : Zone) (one : Entry) → (with_entry zone one).name ≡ zone.name
more_named zone (entries.Interface name) = refl
more_named zone (entries.Source source) = refl

more_rules : (zone : Zone) (one : Entry) → (with_entry zone one).rules ≡ zone.rules
more_rules zone (entries.Interface name) = refl
more_rules zone (entries.Source source) = refl

less_named : (zone : Zone) (one : Entry) → (without_entry zone one).name ≡ zone.name
less_named zone (entries.Interface name) = refl
less_named zone (entries.Source source) = refl

less_rules : (zone : Zone) (one : Entry) → (without_entry zone one).rules ≡ zone.rules
less_rules zone (entries.Interface name) = refl
less_rules zone (entries.Source source) = refl

-- what an edit that wasn't refused made of the zones
was_bound : (zones : List Zone) (found : Found) (one : Entry) (new : List Zone) → bound zones found one ≡ Ok new → slice_set zones found.place (with_entry found.zone one) ≡ new
unfolding bound
was_bound zones found one new is = by (lists one found.zone) (list_any (lists one) zones) is
  where
    by : (here anywhere : Bool)
        → (if here then Err code.ZoneAlreadySet else (if anywhere then Err code.ZoneConflict else Ok (slice_set zones found.place (with_entry found.zone one)))) ≡ Ok new
        → slice_set zones found.place (with_entry found.zone one) ≡ new
    by true anywhere is = cc
    by false true is = cc
    by false false is = same_ok _ new _ refl is

was_unbound : (zones : List Zone) (found : Found) (one : Entry) (new : List Zone) → unbound zones found one ≡ Ok new → slice_set zones found.place (without_entry found.zone one) ≡ new
unfolding unbound
was_unbound zones found one new is = by (lists one found.zone) (list_any (lists one) zones) is
  where
    by : (here anywhere : Bool)
        → (if here then Ok (slice_set zones found.place (without_entry found.zone one)) else (if anywhere then Err code.ZoneConflict else Err (unknown one))) ≡ Ok new
        → slice_set zones found.place (without_entry found.zone one) ≡ new
    by true anywhere is = same_ok _ new _ refl is
    by false true is = cc
    by false false is = cc

-- and which edits aren't
may_bind : (zones : List Zone) (found : Found) (one : Entry) → lists one found.zone ≡ false → list_any (lists one) zones ≡ false
    → bound zones found one ≡ Ok (slice_set zones found.place (with_entry found.zone one))
unfolding bound
may_bind zones found one here anywhere = rw (here, anywhere) refl

may_unbind : (zones : List Zone) (found : Found) (one : Entry) → lists one found.zone ≡ true → unbound zones found one ≡ Ok (slice_set zones found.place (without_entry found.zone one))
unfolding unbound
may_unbind zones found one here = rw here refl

module _ (settings : Settings) (found : Found) (valid : AreValid settings) (at : slice_get settings.runtime.config.zones found.place ≡ Some found.zone) (one : Entry) where
  pub bound_keeps : (zones : List Zone) → IsEntry settings.runtime.config one → bound settings.runtime.config.zones found one ≡ Ok zones → AreValid (with_zones settings zones)
  bound_keeps zones known is =
      let config = settings.runtime.config in
      let timers = timers_stay config found.place found.zone (with_entry found.zone one) settings.timers at (more_named found.zone one) (more_rules found.zone one) valid.timers in
      valid_after settings zones settings.timers valid (bound_valid config found valid.runtime at one zones known is)
      (subst (λ (new : List Zone). AreTimers (record config { zones = new }) settings.timers) (was_bound config.zones found one zones is) timers)

  pub unbound_keeps : (zones : List Zone) → unbound settings.runtime.config.zones found one ≡ Ok zones → AreValid (with_zones settings zones)
  unbound_keeps zones is =
      let config = settings.runtime.config in
      let timers = timers_stay config found.place found.zone (without_entry found.zone one) settings.timers at (less_named found.zone one) (less_rules found.zone one) valid.timers in
      valid_after settings zones settings.timers valid (unbound_valid config found valid.runtime at one zones is)
      (subst (λ (new : List Zone). AreTimers (record config { zones = new }) settings.timers) (was_unbound config.zones found one zones is) timers)

-- zones in which no zone lists an entry any more, and the one that is to have it stands where it did
record IsFreed (settings : Settings) (found : Found) (one : Entry) (zones : List Zone) : Type 0 where
  valid : AreValid (with_zones settings zones)
  at : slice_get zones found.place ≡ Some found.zone
  none : list_any (lists one) zones ≡ false

module _ (settings : Settings) (found : Found) (valid : AreValid settings) (at : slice_get settings.runtime.config.zones found.place ≡ Some found.zone) (one : Entry) where
  abbrev less : Zone → Zone
  less zone = without_entry zone one

  freed_first : lists one found.zone ≡ false → (first : IsFirst (lists one) less settings.runtime.config.zones) → IsFreed settings found one (slice_set settings.runtime.config.zones first.place (less first.zone))
  freed_first here first =
      let config = settings.runtime.config in
      let from : Found = record { place = first.place; zone = first.zone } in
      let differs = first_elsewhere (lists one) less config.zones found.place found.zone at here first in
      record {
        valid = unbound_keeps settings from valid first.at one (slice_set config.zones first.place (less first.zone)) (may_unbind config.zones from one first.passes);
        at = other_stays config.zones first.place found.place (less first.zone) differs ∙ at;
        none = none_left config config.zones first.place first.zone one first.at (zone_beside config first.place first.zone valid.runtime first.at) first.passes;
      }

  freed : lists one found.zone ≡ false → IsFreed settings found one (taken settings.runtime.config.zones one)
  freed here = by (first_or_none (lists one) less settings.runtime.config.zones)
    where
      by : IsFirst (lists one) less settings.runtime.config.zones ⊎ IsNone (lists one) less settings.runtime.config.zones → IsFreed settings found one (taken settings.runtime.config.zones one)
      by (inl first) = subst (IsFreed settings found one) (sym first.is) (freed_first here first)
      by (inr none) = subst (IsFreed settings found one) (sym none.is) (record { valid = valid; at = at; none = none.fails })

  moved_by : IsEntry settings.runtime.config one → (here : Bool) → lists one found.zone ≡ here
      → AreValid (with_zones settings (if here then settings.runtime.config.zones else slice_set (taken settings.runtime.config.zones one) found.place (with_entry found.zone one)))
  moved_by known true here = valid
  moved_by known false here =
      let zones = taken settings.runtime.config.zones one in
      let free = freed here in
      bound_keeps (with_zones settings zones) found free.valid free.at one (slice_set zones found.place (with_entry found.zone one)) known (may_bind zones found one here free.none)

  pub moved_keeps : IsEntry settings.runtime.config one → AreValid (with_zones settings (moved settings.runtime.config.zones found one))
  unfolding moved
  moved_keeps known = moved_by known (lists one found.zone) refl

add_valid : (settings : Settings) (zone : List ℕ) (word : BindingWord) (answered : Answered Settings) → AreValid settings → add_binding settings zone word ≡ Ok answered → AreValid answered.after
unfolding add_binding
add_valid settings zone word answered valid is =
    let config = settings.runtime.config in
    let found = then_ok _ (look_up config zone) answered is in
    let one = then_ok _ (entry_of config.ipsets word) answered found.2 in
    let zones = then_ok _ (refused_as word.text (bound config.zones found.0 one.0)) answered one.2 in
    subst (λ (a : Answered Settings). AreValid a.after) (inner _ answered zones.2)
    (bound_keeps settings found.0 valid (looked_up config zone found.0 found.1) one.0 zones.0 (word_read config word one.0 one.1) (was_made word.text (bound config.zones found.0 one.0) zones.0 zones.1))

remove_valid : (settings : Settings) (zone : List ℕ) (word : BindingWord) (answered : Answered Settings) → AreValid settings → remove_binding settings zone word ≡ Ok answered → AreValid answered.after
unfolding remove_binding
remove_valid settings zone word answered valid is =
    let config = settings.runtime.config in
    let found = then_ok _ (look_up config zone) answered is in
    let one = then_ok _ (entry_of config.ipsets word) answered found.2 in
    let zones = then_ok _ (refused_as word.text (unbound config.zones found.0 one.0)) answered one.2 in
    subst (λ (a : Answered Settings). AreValid a.after) (inner _ answered zones.2)
    (unbound_keeps settings found.0 valid (looked_up config zone found.0 found.1) one.0 zones.0 (was_made word.text (unbound config.zones found.0 one.0) zones.0 zones.1))

query_valid : (settings : Settings) (zone : List ℕ) (word : BindingWord) (answered : Answered Settings) → AreValid settings → query_binding settings zone word ≡ Ok answered → AreValid answered.after
unfolding query_binding
query_valid settings zone word answered valid is =
    let found = then_ok _ (look_up settings.runtime.config zone) answered is in
    let one = then_ok _ (entry_of settings.runtime.config.ipsets word) answered found.2 in
    subst (λ (a : Answered Settings). AreValid a.after) (inner _ answered one.2) valid

change_valid : (settings : Settings) (zone : List ℕ) (word : BindingWord) (answered : Answered Settings) → AreValid settings → change_binding settings zone word ≡ Ok answered → AreValid answered.after
unfolding change_binding
change_valid settings zone word answered valid is =
    let config = settings.runtime.config in
    let found = then_ok _ (look_up config zone) answered is in
    let one = then_ok _ (entry_of config.ipsets word) answered found.2 in
    subst (λ (a : Answered Settings). AreValid a.after) (inner _ answered one.2)
    (moved_keeps settings found.0 valid (looked_up config zone found.0 found.1) one.0 (word_read config word one.0 one.1))

pub binding_valid : (settings : Settings) (verb : BindingVerb) (zone : List ℕ) (word : BindingWord) (answered : Answered Settings) → AreValid settings
    → binding_member settings verb zone word ≡ Ok answered → AreValid answered.after
binding_valid settings verb.Add zone word answered valid is = add_valid settings zone word answered valid is
binding_valid settings verb.Remove zone word answered valid is = remove_valid settings zone word answered valid is
binding_valid settings verb.Query zone word answered valid is = query_valid settings zone word answered valid is
binding_valid settings verb.Change zone word answered valid is = change_valid settings zone word answered valid is
