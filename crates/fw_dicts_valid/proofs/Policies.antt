-- The policy that a dict makes fits.
use Rattle.std.proofs.Common.{◌≡◌, ℕ, Bool, true, false, codes, fold, if◌then◌else◌, List, [], ◌∷◌, ◌++◌, Option, None, Some, Ok, refl, subst}
use Rattle.std.specs.Str.{bytes_eq}
use Rattle.fw_answer.proofs.Equality as equality
use Rattle.fw_answer.specs.Lists.{is_in}
use Rattle.fw_calls.specs.declared.dict.Dict.{Dict}
use Rattle.fw_dicts.specs.Keys.{Fields, known_keys}
use Rattle.fw_dicts.specs.Lists.{rules_told}
use Rattle.fw_dicts.specs.Policies.{allowed, fault_of, policy_said, policy_told, unless_fault, with_settings}
use Rattle.fw_dicts.specs.Targets.{policy_target_told}
use Rattle.fw_dicts.specs.Values.{each_once, names_or, names_told, text_at, texts_at, with_name}
use Rattle.fw_dicts.specs.declared.shape.Owner.TheVariants as owner
use Rattle.fw_dicts_valid.proofs.Added.{absent}
use Rattle.fw_dicts_valid.proofs.Rules.{told_fit}
use Rattle.fw_dicts_valid.proofs.Steps.{inner, then_ok}
use Rattle.fw_model.specs.declared.config.Config.{Config}
use Rattle.fw_model.specs.declared.policy.Policy.{Policy}
use Rattle.fw_model.specs.declared.policy.PolicyTarget.{PolicyTarget}
use Rattle.fw_model.specs.declared.rules.Rules.{Rules}
use Rattle.fw_policy.proofs.Faults.{valid}
use Rattle.fw_policy.specs.declared.fault.Fault.{Fault}
use Rattle.fw_valid.specs.Each.{IsWithoutRepeats}
use Rattle.fw_valid.specs.Policies.{IsPolicy}
use Rattle.fw_valid_edits.proofs.Edited.{once_pushed}
use Rattle.fw_valid_edits.specs.Fit.{AreFit, IsFitPolicy}

-- names, each once
name_once : (names : List (List ℕ)) (name : List ℕ) → IsWithoutRepeats names → IsWithoutRepeats (with_name names name)
name_once names name once = by (is_in bytes_eq name names) refl
  where
    by : (there : Bool) → is_in bytes_eq name names ≡ there → IsWithoutRepeats (if there then names else names ++ name ∷ [])
    by true found = once
    by false none = once_pushed names name once (absent bytes_eq equality.texts name names none)

all_once : (names others : List (List ℕ)) → IsWithoutRepeats names → IsWithoutRepeats (fold with_name names others)
all_once names [] once = once
all_once names (name ∷ others) once = all_once (with_name names name) others (name_once names name once)

told_once : (fields : Fields) (key : List ℕ) (names : List (List ℕ)) → IsWithoutRepeats names → IsWithoutRepeats (names_told fields key names)
unfolding names_told each_once
told_once fields key names once = by (texts_at fields key)
  where
    by : (found : Option (List (List ℕ))) → IsWithoutRepeats (names_or names found)
    by None = once
    by (Some others) = all_once [] others tt

-- a policy, but for the rules on policies
record IsSaid (config : Config) (policy told : Policy) : Type 0 where
  rules : AreFit config told.rules
  ingress : IsWithoutRepeats told.ingress
  egress : IsWithoutRepeats told.egress
  name : told.name ≡ policy.name

settings_said : (config : Config) (fields : Fields) (policy : Policy) (target : PolicyTarget) (rules : Rules) → AreFit config rules → IsWithoutRepeats policy.ingress → IsWithoutRepeats policy.egress → IsSaid config policy (with_settings fields policy target rules)
unfolding with_settings
settings_said config fields policy target rules fit ingress egress = record {
  rules = fit;
  ingress = told_once fields (codes "ingress_zones") policy.ingress ingress;
  egress = told_once fields (codes "egress_zones") policy.egress egress;
  name = refl;
}

said_fits : (config : Config) (policy told : Policy) (dict : Dict) → AreFit config policy.rules → IsWithoutRepeats policy.ingress → IsWithoutRepeats policy.egress → policy_said config policy dict ≡ Ok told → IsSaid config policy told
unfolding policy_said
said_fits config policy told dict fit ingress egress is =
    let known = then_ok _ (known_keys owner.Policy dict.fields) told is in
    let target = then_ok _ (policy_target_told policy.target (text_at dict.fields (codes "target"))) told known.2 in
    let rules = then_ok _ (rules_told config owner.Policy dict.fields policy.rules) told target.2 in
    subst (IsSaid config policy) (inner _ told rules.2)
    (settings_said config dict.fields policy target.0 rules.0 (told_fit config owner.Policy dict.fields policy.rules rules.0 fit rules.1) ingress egress)

-- a policy that is allowed is as it was said, and keeps the rules on policies
allowed_is : (config : Config) (policy told : Policy) → allowed config.zones policy ≡ Ok told → (policy ≡ told) × IsPolicy config policy
unfolding allowed fault_of
allowed_is config policy told is = by (fault_of config.zones policy) refl is
  where
    by : (fault : Option Fault) → fault_of config.zones policy ≡ fault → unless_fault policy fault ≡ Ok told → (policy ≡ told) × IsPolicy config policy
    by None none is = (inner policy told is, valid config policy none)
    by (Some fault) found is = cc

pub policy_fits : (config : Config) (policy told : Policy) (dict : Dict) → AreFit config policy.rules → IsWithoutRepeats policy.ingress → IsWithoutRepeats policy.egress → policy_told config policy dict ≡ Ok told → IsFitPolicy config told × (told.name ≡ policy.name)
unfolding policy_told
policy_fits config policy told dict fit ingress egress is =
    let said = then_ok _ (policy_said config policy dict) told is in
    let fits = said_fits config policy said.0 dict fit ingress egress said.1 in
    let let_be = allowed_is config said.0 told said.2 in
    subst (λ (told : Policy). IsFitPolicy config told × (told.name ≡ policy.name)) let_be.0
    (record { rules = fits.rules; allowed = let_be.1; ingress_once = fits.ingress; egress_once = fits.egress }, fits.name)
