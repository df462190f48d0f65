-- The time that is told keeps the settings valid.
use Rattle.std.proofs.Common.{◌≡◌, ◌≢◌, ℕ, ◌≤◌, max, true, not, List, subst, arith}
use Rattle.std.proofs.lemmas.Bool.{both_ways, not-true}
use Rattle.std.specs.List.{filter}
use Rattle.fw_model.specs.declared.config.Config.{Config}
use Rattle.fw_model.specs.declared.setting.Timed.{Timed}
use Rattle.fw_settings.specs.Valid.{AreTimers, AreValid, IsHeld, last_deadline, last_time, subject}
use Rattle.fw_settings.specs.declared.settings.Settings.{Settings}
use Rattle.fw_time_links.specs.Ticking.{at_time, ticked}
use Rattle.fw_timed.specs.Timers.{due, ends_before, is_due, not_due}
use Rattle.fw_timer_laws.proofs.Passed.{each_passed, once_passed}
use Rattle.fw_times_valid.proofs.Ended.{all_ended_valid}
use Rattle.fw_times_valid.proofs.Held.{all_ended_held}
use Rattle.fw_times_valid.proofs.Kept.{one_item, was_in_order, was_kept}
use Rattle.fw_valid.specs.Each.{Each}
use Rattle.fw_valid_edits.proofs.Edited.{all_each, each_in}
use Rattle.fw_valid_edits.specs.Fit.{with_zones}
use Rattle.fw_zone.specs.Lists.{IsIn}
use Rattle.fw_zone_edits.specs.Endings.{all_ended}

module _ (config : Config) (timers : List Timed) (now : ℕ) (are : AreTimers config timers) where
  -- no timer that goes on is of a setting that ends
  apart : (timed : Timed) → IsIn timed (not_due timers now) → Each (λ (gone : Timed). subject gone ≢ subject timed) (due timers now)
  apart timed left = all_each (λ (gone : Timed). subject gone ≢ subject timed) (due timers now) (λ gone found same.
      let was = was_kept (is_due now) timers gone (was_in_order ends_before (filter (is_due now) timers) gone found) in
      let goes_on = was_kept (λ (timed : Timed). not (is_due now timed)) timers timed left in
      let one = one_item subject timers gone timed are.once was.0 goes_on.0 same in
      both_ways (is_due now timed) (not-true (is_due now timed) goes_on.1) (subst (λ (it : Timed). is_due now it ≡ true) one was.1))

  -- timers go on
  timers_left : AreTimers (with_zones config (all_ended config.zones (due timers now))) (not_due timers now)
  timers_left = record {
    held = all_each (λ (timed : Timed). IsHeld (with_zones config (all_ended config.zones (due timers now))) (subject timed)) (not_due timers now) (λ timed left.
        let was = was_kept (λ (timed : Timed). not (is_due now timed)) timers timed left in
        all_ended_held config (due timers now) (subject timed) (apart timed left) (each_in (λ (timed : Timed). IsHeld config (subject timed)) timers timed are.held was.0));
    once = once_passed subject (λ (timed : Timed). not (is_due now timed)) timers are.once;
    in_time = each_passed (λ (timed : Timed). timed.deadline ≤ last_deadline) (λ (timed : Timed). timed.deadline ≤ last_deadline) (λ (timed : Timed). not (is_due now timed)) timers (λ timed goes_on in_time. in_time) are.in_time;
  }

latest : (one other bound : ℕ) → one ≤ bound → other ≤ bound → max one other ≤ bound
latest one other bound less too = grind arith

at_time_valid : (settings : Settings) (now : ℕ) → AreValid settings → now ≤ last_time → AreValid (at_time settings now).after
at_time_valid settings now valid early = record {
  permanent = valid.permanent;
  runtime = all_ended_valid settings.runtime.config (due settings.timers now) valid.runtime;
  timers = timers_left settings.runtime.config settings.timers now valid.timers;
  now = early;
  zones = valid.zones;
  policies = valid.policies;
}

pub tick_valid : (settings : Settings) (told : ℕ) → AreValid settings → told ≤ last_time → AreValid (ticked settings told).after
unfolding ticked
tick_valid settings told valid early = at_time_valid settings (max settings.now told) valid (latest settings.now told last_time valid.now early)
