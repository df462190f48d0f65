-- A policy that a dict makes keeps the rules on policies.
use Rattle.std.proofs.Common.{◌≡◌, inl, inr, ℕ, List, [], ◌∷◌, Option, None, Some, Result, Ok, Err, refl, ap, subst}
use Rattle.fw_act.specs.Acts.{result_and_then}
use Rattle.fw_calls.specs.declared.dict.Dict.{Dict}
use Rattle.fw_calls.specs.declared.reply.Refusal.{Refusal}
use Rattle.fw_dicts.specs.Policies.{allowed, fault_of, policy_said, policy_told, unless_fault}
use Rattle.fw_model.specs.declared.config.Config.{Config}
use Rattle.fw_model.specs.declared.policy.Policy.{Policy}
use Rattle.fw_model.specs.declared.zone.Zone.{Zone}
use Rattle.fw_policy.proofs.Faults.{valid}
use Rattle.fw_policy.specs.Faults.{first_fault}
use Rattle.fw_policy.specs.declared.fault.Fault.{Fault}
use Rattle.fw_settings.specs.declared.settings.Settings.{Settings}
use Rattle.fw_valid.specs.Each.{Each}
use Rattle.fw_valid.specs.Policies.{IsNamedZone, IsPolicy, IsSide}
use Rattle.fw_policy_members.specs.Finding.{look_up}
use Rattle.fw_policy_members.specs.Updates.{update_of, with_update}
use Rattle.fw_policy_members.specs.declared.update.Update.{Update}

-- Both steps of two gave something.
both : {X Y : Type 0} (found : Result X Refusal) (step : X → Result Y Refusal) (y : Y) → result_and_then step found ≡ Ok y → (x : X) × (found ≡ Ok x) × (step x ≡ Ok y)
both (Ok x) step y is = (x, refl, is)
both (Err refusal) step y is = cc

abbrev value_or : {X : Type 0} → X → Result X Refusal → X
value_or x (Ok made) = made
value_or x (Err refusal) = x

-- a policy without a fault
faultless : (said told : Policy) (fault : Option Fault) → unless_fault said fault ≡ Ok told → (fault ≡ None) × (said ≡ told)
faultless said told None is = (refl, ap (value_or said) is)
faultless said told (Some fault) is = cc

no_fault : (zones : List Zone) (said told : Policy) → allowed zones said ≡ Ok told → first_fault told zones ≡ None
unfolding allowed fault_of
no_fault zones said told is =
    let none_same = faultless said told (first_fault said zones) is in
    subst (λ (policy : Policy). first_fault policy zones ≡ None) none_same.1 none_same.0

told_is_policy : (config : Config) (policy : Policy) (dict : Dict) (told : Policy) → policy_told config policy dict ≡ Ok told → IsPolicy config told
unfolding policy_told
told_is_policy config policy dict told is =
    let said = both (policy_said config policy dict) (allowed config.zones) told is in
    valid config told (no_fault config.zones said.0 told said.2)

-- Other policies in a configuration leave it as it is.
abbrev with_policies : Config → List Policy → Config
with_policies config policies = record config { policies = policies }

names_beside : (config : Config) (policies : List Policy) (names : List (List ℕ)) → Each (IsNamedZone config) names → Each (IsNamedZone (with_policies config policies)) names
names_beside config policies [] each = tt
names_beside config policies (name ∷ names) (first, rest) =
    (record { known = first.known; not_host = first.not_host; not_any = first.not_any }, names_beside config policies names rest)

side_beside : (config : Config) (policies : List Policy) (names : List (List ℕ)) → IsSide config names → IsSide (with_policies config policies) names
side_beside config policies names (inl is_host) = inl is_host
side_beside config policies names (inr (inl is_any)) = inr (inl is_any)
side_beside config policies names (inr (inr each)) = inr (inr (names_beside config policies names each))

beside : (config : Config) (policies : List Policy) (policy : Policy) → IsPolicy config policy → IsPolicy (with_policies config policies) policy
beside config policies policy is = record {
  priority = is.priority;
  not_with_zones = is.not_with_zones;
  ingress = side_beside config policies policy.ingress is.ingress;
  egress = side_beside config policies policy.egress is.egress;
  not_host_to_host = is.not_host_to_host;
  masquerade = is.masquerade;
  forward_here = is.forward_here;
  forward_there = is.forward_there;
  mark = is.mark;
}

pub updated_is_policy : (settings : Settings) (policy : List ℕ) (dict : Dict) (update : Update) → update_of settings policy dict ≡ Ok update
    → IsPolicy (with_update settings update).runtime.config update.policy
unfolding update_of
updated_is_policy settings policy dict update is =
    let config = settings.runtime.config in
    let found = both (look_up config policy) _ update is in
    let told = both (policy_told config found.0.policy dict) _ update found.2 in
    let made : Update = record { place = found.0.place; policy = told.0 } in
    let same : made ≡ update = ap (value_or made) told.2 in
    beside config (with_update settings update).runtime.config.policies update.policy
    (subst (λ (u : Update). IsPolicy config u.policy) same (told_is_policy config found.0.policy dict told.0 told.1))
