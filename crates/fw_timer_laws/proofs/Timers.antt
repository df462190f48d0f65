-- Timers of a configuration in which a setting comes to a zone, perhaps with a timer, or goes from it.
use Rattle.std.proofs.Common.{◌≡◌, ◌≢◌, ◌∙◌, ℕ, zero, suc, ◌≤◌, inl, inr, true, false, not, List, [], ◌∷◌, map, Option, None, Some, slice_get, slice_set, refl, sym, ap, subst}
use Rattle.std.proofs.lemmas.Bool.{and_from, both_ways, not-true}
use Rattle.std.proofs.lemmas.Slice.Eq.{bytes_eq-Decides}
use Rattle.std.specs.Str.{bytes_eq}
use Rattle.fw_model.specs.declared.config.Config.{Config}
use Rattle.fw_model.specs.declared.setting.Setting.{Setting}
use Rattle.fw_model.specs.declared.setting.Timed.{Timed}
use Rattle.fw_model.specs.declared.zone.Zone.{Zone}
use Rattle.fw_settings.specs.Valid.{AreTimers, IsHeld, last_deadline, subject}
use Rattle.fw_timed.proofs.Settings.{settings}
use Rattle.fw_timed.specs.Timers.{is_of, same_setting, without_timers}
use Rattle.fw_timer_laws.proofs.Has.{has_more, has_new, has_still}
use Rattle.fw_timer_laws.proofs.Held.{held_stays}
use Rattle.fw_timer_laws.proofs.Passed.{each_passed, once_passed}
use Rattle.fw_timer_laws.specs.Timers.{IsTimerOf}
use Rattle.fw_valid.specs.Each.{Each, IsWithoutRepeats}
use Rattle.fw_valid.specs.Names.{zone_names}
use Rattle.fw_valid_edits.proofs.Edited.{each_in, each_mapped, each_pushed, each_weaker, map_pushed, once_pushed}
use Rattle.fw_valid_edits.proofs.Entries.{stands}
use Rattle.fw_valid_edits.specs.Fit.{with_zones}
use Rattle.fw_zone.specs.Lists.{IsIn}
use Rattle.fw_zone.specs.Settings.{Has, with_setting}
use Rattle.fw_zone_edits.proofs.Plain.{there}
use Rattle.fw_zone_edits.specs.Settings.{has, without_setting}
use Rattle.fw_zone_edits.specs.Zones.{Found}
use Rattle.fw_zone_members.specs.Settings.{with_timer}

abbrev name_of : Zone → List ℕ
name_of zone = zone.name

name_in : (zones : List Zone) (zone : Zone) → IsIn zone zones → IsIn zone.name (map name_of zones)
name_in [] zone found = found
name_in (first ∷ others) zone (inl here) = inl (ap name_of here)
name_in (first ∷ others) zone (inr found) = inr (name_in others zone found)

same_zone : (one other : Zone) → Some one ≡ Some other → one ≡ other
same_zone one other is = cc

-- where no two zones share a name, a zone of a zone's name is that one
one_named : (zones : List Zone) (place : ℕ) (zone other : Zone) → IsWithoutRepeats (map name_of zones) → slice_get zones place ≡ Some zone → IsIn other zones → other.name ≡ zone.name → other ≡ zone
one_named [] place zone other once at found named = cc
one_named (first ∷ others) zero zone other once at (inl here) named = sym here ∙ same_zone first zone at
one_named (first ∷ others) zero zone other once at (inr found) named =
    let shared : other.name ≡ first.name = named ∙ ap name_of (sym (same_zone first zone at)) in
    absurd (once.0 (subst (λ (name : List ℕ). IsIn name (map name_of others)) shared (name_in others other found)))
one_named (first ∷ others) (suc place) zone other once at (inl here) named =
    let shared : zone.name ≡ first.name = sym named ∙ ap name_of (sym here) in
    absurd (once.0 (subst (λ (name : List ℕ). IsIn name (map name_of others)) shared (name_in others zone (stands others place zone at))))
one_named (first ∷ others) (suc place) zone other once at (inr found) named = one_named others place zone other once.1 at found named

set_is_in : (zones : List Zone) (place : ℕ) (old new : Zone) → slice_get zones place ≡ Some old → IsIn new (slice_set zones place new)
set_is_in [] place old new at = cc
set_is_in (first ∷ others) zero old new at = inl refl
set_is_in (first ∷ others) (suc place) old new at = inr (set_is_in others place old new at)

module _ (config : Config) (found : Found) (at : slice_get config.zones found.place ≡ Some found.zone) (timers : List Timed) (are : AreTimers config timers) (one : Setting) where
  abbrev with_one : Zone
  with_one = record found.zone { rules = with_setting found.zone.rules one }

  abbrev config_with : Config
  config_with = with_zones config (slice_set config.zones found.place with_one)

  held_before : Each (λ (timed : Timed). IsHeld config_with (subject timed)) timers
  held_before =
      each_weaker (λ (timed : Timed). IsHeld config (subject timed)) (λ (timed : Timed). IsHeld config_with (subject timed)) timers
      (λ timed held. held_stays config found.place found.zone with_one (subject timed) at refl (λ named has. has_more found.zone.rules one timed.setting has) held) are.held

  held_new : (timed : Timed) → IsTimerOf found one timed → IsHeld config_with (subject timed)
  held_new timed is = record {
    zone = with_one;
    there = set_is_in config.zones found.place found.zone with_one at;
    named = sym is.zone;
    has = subst (Has (with_setting found.zone.rules one)) (sym is.setting) (has_new found.zone.rules one);
  }

  -- a setting that isn't there has no timer
  no_timer : IsWithoutRepeats (zone_names config) → has found.zone.rules one ≡ false → (timed : Timed) → IsTimerOf found one timed → ¬ (IsIn (subject timed) (map subject timers))
  no_timer unique absent timed is found_it =
      let held = each_in (IsHeld config) (map subject timers) (subject timed) (each_mapped subject (IsHeld config) timers are.held) found_it in
      let here : held.zone ≡ found.zone = one_named config.zones found.place found.zone held.zone unique at held.there (held.named ∙ is.zone) in
      let has_it : Has found.zone.rules one = subst (Has found.zone.rules) is.setting (subst (λ (z : Zone). Has z.rules timed.setting) here held.has) in
      both_ways (has found.zone.rules one) absent (there found.zone.rules one has_it)

  pub timers_with : IsWithoutRepeats (zone_names config) → has found.zone.rules one ≡ false → (timed : Option Timed) → ((new : Timed) → timed ≡ Some new → IsTimerOf found one new)
      → AreTimers config_with (with_timer timers timed)
  unfolding with_timer
  timers_with unique absent None new = record { held = held_before; once = are.once; in_time = are.in_time }
  timers_with unique absent (Some timed) new =
      let is = new timed refl in
      record {
        held = each_pushed (λ (timed : Timed). IsHeld config_with (subject timed)) timers timed held_before (held_new timed is);
        once = subst IsWithoutRepeats (sym (map_pushed subject timers timed)) (once_pushed (map subject timers) (subject timed) are.once (no_timer unique absent timed is));
        in_time = each_pushed (λ (timed : Timed). timed.deadline ≤ last_deadline) timers timed are.in_time is.in_time;
      }

  abbrev without_one : Zone
  without_one = record found.zone { rules = without_setting found.zone.rules one }

  abbrev config_without : Config
  config_without = with_zones config (slice_set config.zones found.place without_one)

  -- a timer that stays is of another setting, or of another zone
  other_setting : (timed : Timed) → not (is_of found.zone.name one timed) ≡ true → found.zone.name ≡ timed.zone → one ≢ timed.setting
  unfolding same_setting
  other_setting timed passes named is =
      both_ways (is_of found.zone.name one timed) (not-true (is_of found.zone.name one timed) passes)
      (and_from (bytes_eq timed.zone found.zone.name) (same_setting timed.setting one) ((bytes_eq-Decides timed.zone found.zone.name).1 (sym named)) ((settings timed.setting one).1 (sym is)))

  pub timers_without : AreTimers config_without (without_timers found.zone.name one timers)
  timers_without = record {
    held = each_passed (λ (timed : Timed). IsHeld config (subject timed)) (λ (timed : Timed). IsHeld config_without (subject timed)) (λ timed. not (is_of found.zone.name one timed)) timers
        (λ timed passes held. held_stays config found.place found.zone without_one (subject timed) at refl
        (λ named has. has_still found.zone.rules one timed.setting (other_setting timed passes named) has) held) are.held;
    once = once_passed subject (λ timed. not (is_of found.zone.name one timed)) timers are.once;
    in_time = each_passed (λ (timed : Timed). timed.deadline ≤ last_deadline) (λ (timed : Timed). timed.deadline ≤ last_deadline) (λ timed. not (is_of found.zone.name one timed)) timers
        (λ timed passes in_time. in_time) are.in_time;
  }
