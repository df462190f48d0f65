-- A setting is still there while others end.
use Rattle.std.proofs.Common.{◌≡◌, ◌≢◌, ◌∙◌, List, [], ◌∷◌, Option, None, Some, refl, sym}
use Rattle.fw_model.specs.declared.config.Config.{Config}
use Rattle.fw_model.specs.declared.setting.Timed.{Timed}
use Rattle.fw_settings.specs.Valid.{IsHeld, Subject, subject}
use Rattle.fw_timer_laws.proofs.Has.{has_still}
use Rattle.fw_timer_laws.proofs.Held.{held_stays}
use Rattle.fw_times_valid.proofs.Ended.{found_named}
use Rattle.fw_valid.specs.Each.{Each}
use Rattle.fw_valid_edits.specs.Fit.{with_zones}
use Rattle.fw_zone_edits.specs.Endings.{all_ended, ended, ended_in}
use Rattle.fw_zone_edits.specs.Settings.{without_setting}
use Rattle.fw_zone_edits.specs.Zones.{Found, zone_named}
use Rattle.fw_zone_laws.proofs.Zones.{found_there}

subject_from : (one other : Subject) → one.zone ≡ other.zone → one.setting ≡ other.setting → one ≡ other
subject_from one other zone setting = λ i. record { zone = zone i; setting = setting i }

ended_held : (config : Config) (timed : Timed) (held : Subject) → subject timed ≢ held → IsHeld config held → IsHeld (with_zones config (ended config.zones timed)) held
ended_held config timed held differs is = by (zone_named config.zones timed.zone) refl
  where
    by : (named : Option Found) → zone_named config.zones timed.zone ≡ named → IsHeld (with_zones config (ended_in config.zones timed named)) held
    by None named = record { zone = is.zone; there = is.there; named = is.named; has = is.has }
    by (Some found) named =
        held_stays config found.place found.zone (record found.zone { rules = without_setting found.zone.rules timed.setting }) held (found_there config.zones timed.zone found named) refl
        (λ of_zone has. has_still found.zone.rules timed.setting held.setting
        (λ same. differs (subject_from (subject timed) held (sym (found_named config.zones timed.zone found named) ∙ of_zone) same)) has) is

pub all_ended_held : (config : Config) (timers : List Timed) (held : Subject) → Each (λ (timed : Timed). subject timed ≢ held) timers → IsHeld config held → IsHeld (with_zones config (all_ended config.zones timers)) held
all_ended_held config [] held differ is = record { zone = is.zone; there = is.there; named = is.named; has = is.has }
all_ended_held config (timed ∷ timers) held differ is =
    all_ended_held (with_zones config (ended config.zones timed)) timers held differ.1 (ended_held config timed held differ.0 is)
