-- A policy in force that is given the settings of a dict keeps the settings valid.
use Rattle.std.proofs.Common.{◌≡◌, ℕ, List, Option, None, Some, Ok, slice_get, slice_set, position, option_and_then, refl, subst}
use Rattle.std.specs.Str.{bytes_eq}
use Rattle.fw_act.specs.Acts.{Answered}
use Rattle.fw_calls.specs.declared.dict.Dict.{Dict}
use Rattle.fw_dicts.specs.Policies.{policy_told}
use Rattle.fw_dicts_valid.proofs.Policies.{policy_fits}
use Rattle.fw_dicts_valid.proofs.Steps.{inner, then_ok, was_found}
use Rattle.fw_model.specs.declared.code.Code.TheVariants as code
use Rattle.fw_model.specs.declared.config.Config.{Config}
use Rattle.fw_model.specs.declared.policy.Policy.{Policy}
use Rattle.fw_model.specs.declared.setting.Timed.{Timed}
use Rattle.fw_policy_members.specs.Asking.{policy_settings_member}
use Rattle.fw_policy_members.specs.Finding.{Found, look_up, policy_named}
use Rattle.fw_policy_members.specs.Updates.{set_policy_settings_member, update_of, with_update}
use Rattle.fw_policy_members.specs.declared.update.Update.{Update}
use Rattle.fw_settings.specs.Valid.{AreTimers, AreValid, IsHeld, subject}
use Rattle.fw_settings.specs.declared.settings.Settings.{Settings}
use Rattle.fw_valid.specs.Valid.{IsValid}
use Rattle.fw_valid_edits.proofs.Edited.{each_weaker}
use Rattle.fw_valid_edits.proofs.PolicyEdits.{changed_policy, policy_there}
use Rattle.fw_valid_edits.specs.Fit.{with_policies}

same_found : (one other : Found) → Some one ≡ Some other → one ≡ other
same_found one other is = cc

-- the policy that was found stands at its place
found_there : (policies : List Policy) (name : List ℕ) (found : Found) → policy_named policies name ≡ Some found → slice_get policies found.place ≡ Some found.policy
found_there policies name found is = by_place (position (λ policy. bytes_eq policy.name name) policies) is
  where
    by_policy : (place : ℕ) (at : Option Policy) → slice_get policies place ≡ at → option_and_then (λ policy. Some (record { place = place; policy = policy })) at ≡ Some found
        → slice_get policies found.place ≡ Some found.policy
    by_policy place None there is = cc
    by_policy place (Some policy) there is = subst (λ (found : Found). slice_get policies found.place ≡ Some found.policy) (same_found (record { place = place; policy = policy }) found is) there

    by_place : (place : Option ℕ) → option_and_then (λ place. option_and_then (λ policy. Some (record { place = place; policy = policy })) (slice_get policies place)) place ≡ Some found
        → slice_get policies found.place ≡ Some found.policy
    by_place None is = cc
    by_place (Some place) is = by_policy place (slice_get policies place) refl is

looked_up : (config : Config) (name : List ℕ) (found : Found) → look_up config name ≡ Ok found → slice_get config.policies found.place ≡ Some found.policy
unfolding look_up
looked_up config name found is = found_there config.policies name found (was_found code.InvalidPolicy name (policy_named config.policies name) found is)

-- the configuration with what a dict made of one of its policies
config_valid : (settings : Settings) (policy : List ℕ) (dict : Dict) (update : Update) → IsValid settings.runtime.config → update_of settings policy dict ≡ Ok update
    → IsValid (with_update settings update).runtime.config
unfolding update_of
config_valid settings policy dict update valid is =
    let config = settings.runtime.config in
    let found = then_ok _ (look_up config policy) update is in
    let place = found.0.place in
    let told = then_ok _ (policy_told config found.0.policy dict) update found.2 in
    let at = looked_up config policy found.0 found.1 in
    let was = policy_there config place found.0.policy valid at in
    let fit = policy_fits config found.0.policy told.0 dict was.rules was.ingress_once was.egress_once told.1 in
    subst (λ (u : Update). IsValid (with_update settings u).runtime.config) (inner _ update told.2) (changed_policy config place found.0.policy told.0 valid at fit.1 fit.0)

-- timers are of settings of zones
timers_beside : (config : Config) (policies : List Policy) (timers : List Timed) → AreTimers config timers → AreTimers (with_policies config policies) timers
timers_beside config policies timers are = record {
  held = each_weaker (λ (timed : Timed). IsHeld config (subject timed)) (λ (timed : Timed). IsHeld (with_policies config policies) (subject timed)) timers
      (λ timed held. record { zone = held.zone; there = held.there; named = held.named; has = held.has }) are.held;
  once = are.once;
  in_time = are.in_time;
}

settings_valid : (settings : Settings) (update : Update) → AreValid settings → IsValid (with_update settings update).runtime.config → AreValid (with_update settings update)
settings_valid settings update valid config = record {
  permanent = valid.permanent;
  runtime = config;
  timers = timers_beside settings.runtime.config (slice_set settings.runtime.config.policies update.place update.policy) settings.timers valid.timers;
  now = valid.now;
  zones = valid.zones;
  policies = valid.policies;
}

pub set_policy_settings_valid : (settings : Settings) (policy : List ℕ) (dict : Dict) (answered : Answered Settings) → AreValid settings
    → set_policy_settings_member settings policy dict ≡ Ok answered → AreValid answered.after
unfolding set_policy_settings_member
set_policy_settings_valid settings policy dict answered valid is =
    let update = then_ok _ (update_of settings policy dict) answered is in
    subst (λ (a : Answered Settings). AreValid a.after) (inner _ answered update.2)
    (settings_valid settings update.0 valid (config_valid settings policy dict update.0 valid.runtime update.1))

-- asking changes nothing
pub policy_settings_valid : (settings : Settings) (policy : List ℕ) (answered : Answered Settings) → AreValid settings → policy_settings_member settings policy ≡ Ok answered → AreValid answered.after
unfolding policy_settings_member
policy_settings_valid settings policy answered valid is =
    let found = then_ok _ (look_up settings.runtime.config policy) answered is in
    subst (λ (a : Answered Settings). AreValid a.after) (inner _ answered found.2) valid
