-- What a dict makes of a policy (firewalld.dbus(5), `setPolicySettings`, `addPolicy` and `update`; firewalld.policies(5) for the rules on
-- policies). The order of the refusals is this project's own.
use Rattle.std.specs.Prelude.{ℕ, ℤ, negsuc, codes, get_or, List, [], Option, None, Some, Result, Ok}
use Rattle.std.specs.Fmt.{signed_decimal}
use Rattle.std.specs.Option.{unwrap_or}
use Rattle.fw_act.specs.Acts.{◌>>=◌, refused}
use Rattle.fw_calls.specs.declared.dict.Dict.{Dict}
use Rattle.fw_calls.specs.declared.reply.Refusal.{Refusal}
use Rattle.fw_dicts.specs.Keys.{Fields, known_keys}
use Rattle.fw_dicts.specs.Lists.{rules_told}
use Rattle.fw_dicts.specs.Targets.{policy_target_told}
use Rattle.fw_dicts.specs.Values.{names_told, notes_told, number_at, text_at}
use Rattle.fw_dicts.specs.Zones.{no_rules}
use Rattle.fw_dicts.specs.declared.shape.Owner.TheVariants as owner
use Rattle.fw_model.specs.declared.config.Config.{Config}
use Rattle.fw_model.specs.declared.policy.Policy.{Policy}
use Rattle.fw_model.specs.declared.policy.PolicyTarget.{PolicyTarget}
use Rattle.fw_model.specs.declared.policy.PolicyTarget.TheVariants as target
use Rattle.fw_model.specs.declared.rules.Rules.{Rules}
use Rattle.fw_model.specs.declared.zone.Zone.{Zone}
use Rattle.fw_policy.specs.Faults.{code_of, first_fault}
use Rattle.fw_policy.specs.declared.fault.Fault.{Fault}
use Rattle.fw_policy.specs.declared.fault.Fault.TheVariants as fault

-- a policy with other settings
unfoldable pub with_settings : Fields → Policy → PolicyTarget → Rules → Policy
with_settings fields policy target rules = record {
  name = policy.name;
  notes = notes_told fields policy.notes;
  target = target;
  priority = unwrap_or (number_at fields (codes "priority")) policy.priority;
  ingress = names_told fields (codes "ingress_zones") policy.ingress;
  egress = names_told fields (codes "egress_zones") policy.egress;
  rules = rules;
}

-- what a refusal by the rules on policies names: the priority, the zone that isn't known, or else the policy
abbrev pub fault_subject : Policy → Fault → List ℕ
fault_subject policy fault.Priority = signed_decimal policy.priority
fault_subject policy (fault.UnknownIngress place) = get_or policy.ingress place []
fault_subject policy (fault.UnknownEgress place) = get_or policy.egress place []
fault_subject policy fault.NotAlone = policy.name
fault_subject policy fault.HostToHost = policy.name
fault_subject policy fault.Masquerade = policy.name
fault_subject policy fault.Forward = policy.name
fault_subject policy fault.Mark = policy.name

abbrev pub unless_fault : Policy → Option Fault → Result Policy Refusal
unless_fault policy None = Ok policy
unless_fault policy (Some fault) = refused (code_of fault) (fault_subject policy fault)

-- the first of the rules on policies that a policy breaks, beside these zones
unfoldable pub fault_of : List Zone → Policy → Option Fault
fault_of zones policy = first_fault policy zones

-- a policy that breaks none of these rules, or its first fault
unfoldable pub allowed : List Zone → Policy → Result Policy Refusal
allowed zones policy = unless_fault policy (fault_of zones policy)

-- the policy that a dict says, whether or not it keeps the rules on policies; or the first refusal. An absent key leaves what there is.
-- Services and ipsets are those of the configuration.
unfoldable pub policy_said : Config → Policy → Dict → Result Policy Refusal
policy_said config policy dict = do
  known ← known_keys owner.Policy dict.fields
  target ← policy_target_told policy.target (text_at dict.fields (codes "target"))
  rules ← rules_told config owner.Policy dict.fields policy.rules
  Ok (with_settings dict.fields policy target rules)

-- the policy that a dict makes of a policy, beside the zones of the configuration; or the first refusal
unfoldable pub policy_told : Config → Policy → Dict → Result Policy Refusal
policy_told config policy dict = do
  said ← policy_said config policy dict
  allowed config.zones said

-- a policy before a dict says its settings
abbrev pub new_policy : (name : List ℕ) → Policy
new_policy name = record {
  name = name;
  notes = record { version = []; short = []; description = [] };
  target = target.Continue;
  priority = negsuc 0;
  ingress = [];
  egress = [];
  rules = no_rules;
}
