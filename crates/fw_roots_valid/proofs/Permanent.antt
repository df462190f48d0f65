-- The settings in force become the permanent ones, and all are valid.
use Rattle.std.proofs.Common.{◌≤◌, length, sym}
use Rattle.fw_config_valid.proofs.Numbers.{numbers_kept}
use Rattle.fw_model.specs.declared.policy.Policy.{Policy}
use Rattle.fw_model.specs.declared.zone.Zone.{Zone}
use Rattle.fw_root_members.specs.Numbering.{policy_numbers, to_permanent, to_permanent_member, zone_numbers}
use Rattle.fw_roots_valid.proofs.Numbered.{numbered_are}
use Rattle.fw_settings.specs.Valid.{AreNumbers, AreValid, last_number}
use Rattle.fw_settings.specs.declared.settings.Settings.{Settings}
use Rattle.fw_times_valid.proofs.Ended.{all_ended_count, all_ended_valid}

module _ (settings : Settings) (valid : AreValid settings) where
  zones_numbered : settings.next_zone ≤ last_number → AreNumbers (length settings.runtime.config.zones) (zone_numbers settings).numbers (zone_numbers settings).next × ((zone_numbers settings).next ≤ last_number)
  zones_numbered most =
      numbered_are (λ (zone : Zone). zone.name) settings.permanent.zones settings.zone_ids settings.next_zone valid.zones settings.runtime.config.zones most valid.runtime.names.zones.unique

  policies_numbered : settings.next_policy ≤ last_number → AreNumbers (length settings.runtime.config.policies) (policy_numbers settings).numbers (policy_numbers settings).next × ((policy_numbers settings).next ≤ last_number)
  policies_numbered most =
      numbered_are (λ (policy : Policy). policy.name) settings.permanent.policies settings.policy_ids settings.next_policy valid.policies settings.runtime.config.policies most valid.runtime.names.policies.unique

pub to_permanent_valid : (settings : Settings) → AreValid settings → settings.next_zone ≤ last_number → settings.next_policy ≤ last_number → AreValid (to_permanent_member settings).after
unfolding to_permanent
to_permanent_valid settings valid zone policy = record {
  permanent = all_ended_valid settings.runtime.config settings.timers valid.runtime;
  runtime = valid.runtime;
  timers = valid.timers;
  now = valid.now;
  zones = numbers_kept _ _ (zone_numbers settings).numbers (zone_numbers settings).next (sym (all_ended_count settings.runtime.config.zones settings.timers)) (zones_numbered settings valid zone).0;
  policies = (policies_numbered settings valid policy).0;
}

pub to_permanent_numbers : (settings : Settings) → AreValid settings → settings.next_zone ≤ last_number → settings.next_policy ≤ last_number
    → ((to_permanent_member settings).after.next_zone ≤ last_number) × ((to_permanent_member settings).after.next_policy ≤ last_number)
unfolding to_permanent
to_permanent_numbers settings valid zone policy = ((zones_numbered settings valid zone).1, (policies_numbered settings valid policy).1)
