-- Calls that add, change and remove permanent policies keep the settings valid.
use Rattle.std.proofs.Common.{◌≡◌, ℕ, ◌≤◌, not, List, [], ◌∷◌, ◌++◌, Some, Ok, IsTrue, slice_get, slice_set, remove, sym, subst}
use Rattle.std.proofs.lemmas.Bool.{not-true}
use Rattle.std.proofs.lemmas.List.{length-set}
use Rattle.std.specs.Fmt.{decimal}
use Rattle.fw_act.specs.Acts.{Answered, required}
use Rattle.fw_addr.specs.WellFormed.{is_name}
use Rattle.fw_calls.specs.declared.dict.Dict.{Dict}
use Rattle.fw_config_members.specs.Adding.{add_policy_member, added_policy, has_policy, with_policy}
use Rattle.fw_config_valid.proofs.Named.{none_named}
use Rattle.fw_config_valid.proofs.Numbers.{numbers_kept, numbers_pushed, numbers_removed}
use Rattle.fw_dicts.specs.Policies.{new_policy, policy_told}
use Rattle.fw_dicts_valid.proofs.Policies.{policy_fits}
use Rattle.fw_dicts_valid.proofs.Steps.{holds, inner, then_ok, was_found}
use Rattle.fw_dicts_valid.proofs.Zones.{no_rules_fit}
use Rattle.fw_model.specs.declared.code.Code.TheVariants as code
use Rattle.fw_model.specs.declared.config.Config.{Config}
use Rattle.fw_model.specs.declared.policy.Policy.{Policy}
use Rattle.fw_object_members.specs.Objects.{FoundPolicy, place_of, policy_meant, policy_numbered}
use Rattle.fw_object_members.specs.Policies.{remove_policy_member, update_policy_member, with_policy_at, without_policy_at}
use Rattle.fw_rich_valid.proofs.Saying.{some_inner, some_then}
use Rattle.fw_settings.specs.Valid.{AreValid, last_number}
use Rattle.fw_settings.specs.declared.settings.Settings.{Settings}
use Rattle.fw_valid.specs.Names.{policy_names}
use Rattle.fw_valid.specs.Valid.{IsValid}
use Rattle.fw_valid_edits.proofs.PolicyEdits as edits
use Rattle.fw_zone.specs.Lists.{IsIn}

-- a policy that is added keeps the permanent settings valid
added_valid : (config : Config) (name : List ℕ) (dict : Dict) (policy : Policy) → IsValid config → added_policy config name dict ≡ Ok policy → IsValid (record config { policies = config.policies ++ policy ∷ [] })
unfolding added_policy
added_valid config name dict policy valid is =
    let formed = then_ok _ (required (is_name name) code.InvalidName name) policy is in
    let free = then_ok _ (required (not (has_policy config name)) code.NameConflict name) policy formed.2 in
    let fresh = none_named (λ (policy : Policy). policy.name) config.policies name (not-true (has_policy config name) (holds (not (has_policy config name)) code.NameConflict name free.0 free.1)) in
    let fit = policy_fits config (new_policy name) policy dict (no_rules_fit config) tt tt free.2 in
    edits.added_policy config policy valid (subst (λ (name : List ℕ). IsTrue (is_name name)) (sym fit.1) (holds (is_name name) code.InvalidName name formed.0 formed.1))
    (subst (λ (name : List ℕ). ¬ (IsIn name (policy_names config))) (sym fit.1) fresh) fit.0

settings_with : (settings : Settings) (policy : Policy) → AreValid settings → settings.next_policy ≤ last_number → IsValid (record settings.permanent { policies = settings.permanent.policies ++ policy ∷ [] }) → AreValid (with_policy settings policy)
unfolding with_policy
settings_with settings policy valid most permanent = record {
  permanent = permanent;
  runtime = valid.runtime;
  timers = valid.timers;
  now = valid.now;
  zones = valid.zones;
  policies = numbers_pushed settings.permanent.policies policy settings.policy_ids settings.next_policy most valid.policies;
}

pub add_policy : (settings : Settings) (name : List ℕ) (dict : Dict) (answered : Answered Settings) → AreValid settings → settings.next_policy ≤ last_number → add_policy_member settings name dict ≡ Ok answered → AreValid answered.after
unfolding add_policy_member
add_policy settings name dict answered valid most is =
    let made = then_ok _ (added_policy settings.permanent name dict) answered is in
    subst (λ (answered : Answered Settings). AreValid answered.after) (inner _ answered made.2)
    (settings_with settings made.0 valid most (added_valid settings.permanent name dict made.0 valid.permanent made.1))

-- the policy that a number means
meant_at : (settings : Settings) (number : ℕ) (found : FoundPolicy) → policy_meant settings number ≡ Ok found → slice_get settings.permanent.policies found.place ≡ Some found.policy
unfolding policy_meant
meant_at settings number found is =
    let numbered = was_found code.InvalidPolicy (decimal number) (policy_numbered settings number) found is in
    let place = some_then _ (place_of settings.policy_ids number) found numbered in
    let policy = some_then _ (slice_get settings.permanent.policies place.0) found place.2 in
    subst (λ (found : FoundPolicy). slice_get settings.permanent.policies found.place ≡ Some found.policy) (some_inner _ found policy.2) policy.1

settings_at : (settings : Settings) (place : ℕ) (policy : Policy) → AreValid settings → IsValid (record settings.permanent { policies = slice_set settings.permanent.policies place policy }) → AreValid (with_policy_at settings place policy)
unfolding with_policy_at
settings_at settings place policy valid permanent = record {
  permanent = permanent;
  runtime = valid.runtime;
  timers = valid.timers;
  now = valid.now;
  zones = valid.zones;
  policies = numbers_kept _ _ settings.policy_ids settings.next_policy (sym (length-set settings.permanent.policies place policy)) valid.policies;
}

pub update_policy : (settings : Settings) (number : ℕ) (dict : Dict) (answered : Answered Settings) → AreValid settings → update_policy_member settings number dict ≡ Ok answered → AreValid answered.after
unfolding update_policy_member
update_policy settings number dict answered valid is =
    let found = then_ok _ (policy_meant settings number) answered is in
    let place = found.0.place in
    let told = then_ok _ (policy_told settings.permanent found.0.policy dict) answered found.2 in
    let at = meant_at settings number found.0 found.1 in
    let was = edits.policy_there settings.permanent place found.0.policy valid.permanent at in
    let fit = policy_fits settings.permanent found.0.policy told.0 dict was.rules was.ingress_once was.egress_once told.1 in
    subst (λ (answered : Answered Settings). AreValid answered.after) (inner _ answered told.2)
    (settings_at settings place told.0 valid (edits.changed_policy settings.permanent place found.0.policy told.0 valid.permanent at fit.1 fit.0))

settings_without : (settings : Settings) (place : ℕ) → AreValid settings → IsValid (record settings.permanent { policies = remove settings.permanent.policies place }) → AreValid (without_policy_at settings place)
unfolding without_policy_at
settings_without settings place valid permanent = record {
  permanent = permanent;
  runtime = valid.runtime;
  timers = valid.timers;
  now = valid.now;
  zones = valid.zones;
  policies = numbers_removed settings.permanent.policies settings.policy_ids settings.next_policy place valid.policies;
}

pub remove_policy : (settings : Settings) (number : ℕ) (answered : Answered Settings) → AreValid settings → remove_policy_member settings number ≡ Ok answered → AreValid answered.after
unfolding remove_policy_member
remove_policy settings number answered valid is =
    let found = then_ok _ (policy_meant settings number) answered is in
    subst (λ (answered : Answered Settings). AreValid answered.after) (inner _ answered found.2)
    (settings_without settings found.0.place valid (edits.removed_policy settings.permanent found.0.place valid.permanent))
