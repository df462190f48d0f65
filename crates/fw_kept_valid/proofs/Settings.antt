-- Members on settings of zones in force keep the settings valid.
use Rattle.std.proofs.Common.{◌≡◌, ℕ, ℤ, pos, negsuc, int_lt, unsigned_abs, ◌+◌, ◌==◌, ◌<◌, ◌≤◌, ◌^◌, Bool, true, false, if◌then◌else◌, List, None, Some, Ok, Err, slice_get, slice_set, refl, subst, arith}
use Rattle.std.specs.Fmt.{signed_decimal}
use Rattle.std.specs.Int.{w32}
use Rattle.std.specs.Prelude.{FitsSigned}
use Rattle.fw_act.specs.Acts.{Answered, refused, refused_as}
use Rattle.fw_argument_laws.proofs.Reading.{words_read}
use Rattle.fw_calls.specs.declared.call.SettingVerb.TheVariants as verb
use Rattle.fw_calls.specs.declared.call.SettingVerb.{SettingVerb}
use Rattle.fw_calls.specs.declared.call.SettingWords.{SettingWords}
use Rattle.fw_dicts_valid.proofs.Steps.{inner, then_ok}
use Rattle.fw_kept_valid.proofs.Steps.{looked_up, same_ok, valid_after, was_made}
use Rattle.fw_kept_valid.specs.Timeouts.{IsTimed}
use Rattle.fw_model.specs.declared.code.Code.TheVariants as code
use Rattle.fw_model.specs.declared.setting.Setting.{Setting}
use Rattle.fw_model.specs.declared.setting.Timed.{Timed}
use Rattle.fw_model.specs.declared.zone.Zone.{Zone}
use Rattle.fw_settings.specs.Valid.{AreTimers, AreValid}
use Rattle.fw_settings.specs.declared.settings.Settings.{Settings}
use Rattle.fw_timed.specs.Timers.{without_timers}
use Rattle.fw_timer_laws.proofs.Timers.{timers_with, timers_without}
use Rattle.fw_timer_laws.specs.Timers.{IsTimerOf}
use Rattle.fw_zone.specs.Settings.{with_setting}
use Rattle.fw_zone_edits.specs.Settings.{added_at, edited, has, removed_at, without_setting}
use Rattle.fw_zone_edits.specs.Texts.{setting_text}
use Rattle.fw_zone_edits.specs.Zones.{Found}
use Rattle.fw_zone_laws.proofs.Zones.{added_valid, removed_valid}
use Rattle.fw_zone_laws.specs.Settings.{IsSetting}
use Rattle.fw_zone_members.specs.Reading.{look_up, seconds_of, setting_of}
use Rattle.fw_zone_members.specs.Settings.{add_setting, query_setting, remove_setting, setting_member, timer, with_found, with_timer, without_found}

-- what an edit that wasn't refused made of the zones
was_added : (zones : List Zone) (found : Found) (one : Setting) (new : List Zone) → added_at zones found one ≡ Ok new
    → (has found.zone.rules one ≡ false) × (slice_set zones found.place (record found.zone { rules = with_setting found.zone.rules one }) ≡ new)
unfolding added_at
was_added zones found one new is = by (has found.zone.rules one) refl is
  where
    by : (b : Bool) → has found.zone.rules one ≡ b
        → edited zones found.place (if b then Err code.AlreadyEnabled else Ok (record found.zone { rules = with_setting found.zone.rules one })) ≡ Ok new
        → (has found.zone.rules one ≡ false) × (slice_set zones found.place (record found.zone { rules = with_setting found.zone.rules one }) ≡ new)
    by true has_is is = cc
    by false has_is is = (has_is, same_ok _ new _ refl is)

was_removed : (zones : List Zone) (found : Found) (one : Setting) (new : List Zone) → removed_at zones found one ≡ Ok new
    → slice_set zones found.place (record found.zone { rules = without_setting found.zone.rules one }) ≡ new
unfolding removed_at
was_removed zones found one new is = by (has found.zone.rules one) is
  where
    by : (b : Bool) → edited zones found.place (if b then Ok (record found.zone { rules = without_setting found.zone.rules one }) else Err code.NotEnabled) ≡ Ok new
        → slice_set zones found.place (record found.zone { rules = without_setting found.zone.rules one }) ≡ new
    by true is = same_ok _ new _ refl is
    by false is = cc

-- a timeout that wasn't refused
abs_within : (timeout : ℤ) → FitsSigned w32 timeout → unsigned_abs timeout ≤ 2 ^ 31
abs_within (pos n) fits = let within : n < 2 ^ 31 = fits.sfits in omega arith
abs_within (negsuc n) fits = let within : n < 2 ^ 31 = fits.sfits in omega arith

seconds_within : (timeout : ℤ) (seconds : ℕ) → FitsSigned w32 timeout → seconds_of timeout ≡ Ok seconds → seconds ≤ 2 ^ 31
unfolding seconds_of
seconds_within timeout seconds fits is = by (int_lt timeout (pos 0)) is
  where
    by : (below : Bool) → (if below then refused code.InvalidValue (signed_decimal timeout) else Ok (unsigned_abs timeout)) ≡ Ok seconds → seconds ≤ 2 ^ 31
    by true is = cc
    by false is = subst (λ (n : ℕ). n ≤ 2 ^ 31) (same_ok (unsigned_abs timeout) seconds _ refl is) (abs_within timeout fits)

sum_within : (one other most rest : ℕ) → one ≤ most → other ≤ rest → one + other ≤ most + rest
sum_within one other most rest first second = omega arith

same_timed : (one other : Timed) → Some one ≡ Some other → one ≡ other
same_timed one other is = cc

-- the timer of a setting that came
is_timer : (settings : Settings) (found : Found) (one : Setting) (seconds : ℕ) → AreValid settings → seconds ≤ 2 ^ 31
    → (new : Timed) → timer settings.now found.zone.name one seconds ≡ Some new → IsTimerOf found one new
unfolding timer
is_timer settings found one seconds valid within new is = by (seconds == 0) is
  where
    made : Timed
    made = record { deadline = settings.now + seconds; zone = found.zone.name; setting = one }

    by : (none : Bool) → (if none then None else Some made) ≡ Some new → IsTimerOf found one new
    by true is = cc
    by false is = subst (IsTimerOf found one) (same_timed made new is) (record {
      zone = refl;
      setting = refl;
      in_time = sum_within settings.now seconds (2 ^ 62) (2 ^ 31) valid.now within;
    })

added : (settings after : Settings) (found : Found) (seconds : ℕ) (one : Setting) → AreValid settings → slice_get settings.runtime.config.zones found.place ≡ Some found.zone
    → IsSetting settings.runtime.config one → seconds ≤ 2 ^ 31 → with_found settings found seconds one ≡ Ok after → AreValid after
unfolding with_found
added settings after found seconds one valid at fits within is =
    let config = settings.runtime.config in
    let timed = timer settings.now found.zone.name one seconds in
    let zones = then_ok _ (refused_as (setting_text one) (added_at config.zones found one)) after is in
    let made = was_made (setting_text one) (added_at config.zones found one) zones.0 zones.1 in
    let edit = was_added config.zones found one zones.0 made in
    let timers = timers_with config found at settings.timers valid.timers one valid.runtime.names.zones.unique edit.0 timed (is_timer settings found one seconds valid within) in
    subst AreValid (inner _ after zones.2)
    (valid_after settings zones.0 (with_timer settings.timers timed) valid (added_valid config found valid.runtime at one zones.0 fits made)
    (subst (λ (new : List Zone). AreTimers (record config { zones = new }) (with_timer settings.timers timed)) edit.1 timers))

removed : (settings after : Settings) (found : Found) (one : Setting) → AreValid settings → slice_get settings.runtime.config.zones found.place ≡ Some found.zone
    → without_found settings found one ≡ Ok after → AreValid after
unfolding without_found
removed settings after found one valid at is =
    let config = settings.runtime.config in
    let zones = then_ok _ (refused_as (setting_text one) (removed_at config.zones found one)) after is in
    let made = was_made (setting_text one) (removed_at config.zones found one) zones.0 zones.1 in
    let edit = was_removed config.zones found one zones.0 made in
    let timers = timers_without config found at settings.timers valid.timers one in
    subst AreValid (inner _ after zones.2)
    (valid_after settings zones.0 (without_timers found.zone.name one settings.timers) valid (removed_valid config found valid.runtime at one zones.0 made)
    (subst (λ (new : List Zone). AreTimers (record config { zones = new }) (without_timers found.zone.name one settings.timers)) edit timers))

add_valid : (settings : Settings) (zone : List ℕ) (timeout : ℤ) (words : SettingWords) (answered : Answered Settings) → AreValid settings → FitsSigned w32 timeout
    → add_setting settings zone timeout words ≡ Ok answered → AreValid answered.after
unfolding add_setting
add_valid settings zone timeout words answered valid fits is =
    let config = settings.runtime.config in
    let found = then_ok _ (look_up config zone) answered is in
    let seconds = then_ok _ (seconds_of timeout) answered found.2 in
    let one = then_ok _ (setting_of config words) answered seconds.2 in
    let after = then_ok _ (with_found settings found.0 seconds.0 one.0) answered one.2 in
    subst (λ (a : Answered Settings). AreValid a.after) (inner _ answered after.2)
    (added settings after.0 found.0 seconds.0 one.0 valid (looked_up config zone found.0 found.1) (words_read config words one.0 one.1) (seconds_within timeout seconds.0 fits seconds.1) after.1)

remove_valid : (settings : Settings) (zone : List ℕ) (words : SettingWords) (answered : Answered Settings) → AreValid settings
    → remove_setting settings zone words ≡ Ok answered → AreValid answered.after
unfolding remove_setting
remove_valid settings zone words answered valid is =
    let config = settings.runtime.config in
    let found = then_ok _ (look_up config zone) answered is in
    let one = then_ok _ (setting_of config words) answered found.2 in
    let after = then_ok _ (without_found settings found.0 one.0) answered one.2 in
    subst (λ (a : Answered Settings). AreValid a.after) (inner _ answered after.2)
    (removed settings after.0 found.0 one.0 valid (looked_up config zone found.0 found.1) after.1)

query_valid : (settings : Settings) (zone : List ℕ) (words : SettingWords) (answered : Answered Settings) → AreValid settings
    → query_setting settings zone words ≡ Ok answered → AreValid answered.after
unfolding query_setting
query_valid settings zone words answered valid is =
    let found = then_ok _ (look_up settings.runtime.config zone) answered is in
    let one = then_ok _ (setting_of settings.runtime.config words) answered found.2 in
    subst (λ (a : Answered Settings). AreValid a.after) (inner _ answered one.2) valid

pub setting_valid : (settings : Settings) (verb : SettingVerb) (zone : List ℕ) (words : SettingWords) (answered : Answered Settings) → AreValid settings → IsTimed verb
    → setting_member settings verb zone words ≡ Ok answered → AreValid answered.after
setting_valid settings (verb.Add timeout) zone words answered valid fits is = add_valid settings zone timeout words answered valid fits is
setting_valid settings verb.Remove zone words answered valid fits is = remove_valid settings zone words answered valid is
setting_valid settings verb.Query zone words answered valid fits is = query_valid settings zone words answered valid is
