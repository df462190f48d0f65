-- A valid configuration in which a policy changes, to which one comes, or from which one goes.
use Rattle.std.proofs.Common.{◌≡◌, ℕ, List, [], ◌∷◌, ◌++◌, map, Some, slice_get, slice_set, remove, IsTrue, sym, subst}
use Rattle.fw_addr.specs.WellFormed.{is_name}
use Rattle.fw_model.specs.declared.config.Config.{Config}
use Rattle.fw_model.specs.declared.policy.Policy.{Policy}
use Rattle.fw_model.specs.declared.rules.Rules.{Rules}
use Rattle.fw_model.specs.declared.service.Service.{Service}
use Rattle.fw_model.specs.declared.zone.Zone.{Zone}
use Rattle.fw_valid.specs.Each.{Each, IsWithoutRepeats}
use Rattle.fw_valid.specs.Names.{AreNames, policy_names}
use Rattle.fw_valid.specs.Policies.{IsPolicy}
use Rattle.fw_valid.specs.Rules.{AreOnce, IsService, NamesKnown, SetsKnown, all_rules}
use Rattle.fw_valid.specs.Valid.{AreWritten, IsValid}
use Rattle.fw_valid_edits.proofs.Edited.{all_each, each_behind, each_front, each_in, each_joined, each_mapped, each_of, each_pushed, each_removed, each_set, each_weaker, map_pushed, map_removed, once_pushed, once_removed, same_given}
use Rattle.fw_valid_edits.proofs.Entries.{stands}
use Rattle.fw_valid_edits.proofs.ZoneEdits.{policy_kept}
use Rattle.fw_valid_edits.specs.Fit.{IsFitPolicy, with_policies}
use Rattle.fw_zone.specs.Lists.{IsIn}

abbrev name_of : Policy → List ℕ
name_of policy = policy.name

abbrev rules_of : Policy → Rules
rules_of policy = policy.rules

-- the same names are known beside other policies
names_again : (config : Config) (policies : List Policy) (rules : Rules) → NamesKnown config rules → NamesKnown (with_policies config policies) rules
names_again config policies rules is = record {
  services = is.services;
  icmp_types = is.icmp_types;
  rich_services = is.rich_services;
  rich_icmp_types = is.rich_icmp_types;
}

service_again : (config : Config) (policies : List Policy) (service : Service) → IsService config service → IsService (with_policies config policies) service
service_again config policies service is = record { includes = is.includes; in_ipv4 = is.in_ipv4; in_ipv6 = is.in_ipv6 }

-- the settings of all zones and policies, of which the policies are others
module _ (P : Rules → Type 0) (config : Config) where
  abbrev of_zones : List Rules
  of_zones = map (λ (zone : Zone). zone.rules) config.zones

  rules_of_policies : Each P (all_rules config) → Each (λ (policy : Policy). P policy.rules) config.policies
  rules_of_policies each = each_of rules_of P config.policies (each_behind P of_zones (map rules_of config.policies) each)

  with_rules : (policies : List Policy) → Each P (all_rules config) → Each (λ (policy : Policy). P policy.rules) policies → Each P (all_rules (with_policies config policies))
  with_rules policies each new =
      each_joined P of_zones (map rules_of policies) (each_front P of_zones (map rules_of config.policies) each) (each_mapped rules_of P policies new)

all_fit : (config : Config) → IsValid config → Each (IsFitPolicy config) config.policies
all_fit config valid = all_each (IsFitPolicy config) config.policies (λ policy there. record {
  rules = record {
    known = each_in (λ (policy : Policy). NamesKnown config policy.rules) config.policies policy (rules_of_policies (NamesKnown config) config valid.known.in_rules) there;
    sets = each_in (λ (policy : Policy). SetsKnown config policy.rules) config.policies policy (rules_of_policies (SetsKnown config) config valid.ipsets.in_rich_rules) there;
    once = each_in (λ (policy : Policy). AreOnce policy.rules) config.policies policy (rules_of_policies AreOnce config valid.no_repeats.rules) there;
    written = each_in (λ (policy : Policy). AreWritten policy.rules) config.policies policy (rules_of_policies AreWritten config valid.written) there;
  };
  allowed = each_in (IsPolicy config) config.policies policy valid.policies there;
  ingress_once = each_in (λ (policy : Policy). IsWithoutRepeats policy.ingress) config.policies policy valid.no_repeats.ingress there;
  egress_once = each_in (λ (policy : Policy). IsWithoutRepeats policy.egress) config.policies policy valid.no_repeats.egress there;
})

valid_with : (config : Config) (policies : List Policy) → IsValid config → AreNames (map name_of policies) → Each (IsFitPolicy config) policies → IsValid (with_policies config policies)
valid_with config policies valid names each = record {
  names = record {
    zones = valid.names.zones;
    policies = names;
    services = valid.names.services;
    ipsets = valid.names.ipsets;
    no_host = valid.names.no_host;
    no_any = valid.names.no_any;
  };
  default_zone = valid.default_zone;
  interfaces = valid.interfaces;
  sources = valid.sources;
  ipsets = record {
    in_sources = valid.ipsets.in_sources;
    in_rich_rules = with_rules (SetsKnown config) config policies valid.ipsets.in_rich_rules (each_weaker (IsFitPolicy config) (λ (policy : Policy). SetsKnown config policy.rules) policies (λ policy is. is.rules.sets) each);
    sets = valid.ipsets.sets;
  };
  known = record {
    in_rules =
        each_weaker (NamesKnown config) (NamesKnown (with_policies config policies)) (all_rules (with_policies config policies)) (names_again config policies)
        (with_rules (NamesKnown config) config policies valid.known.in_rules (each_weaker (IsFitPolicy config) (λ (policy : Policy). NamesKnown config policy.rules) policies (λ policy is. is.rules.known) each));
    in_services = each_weaker (IsService config) (IsService (with_policies config policies)) config.services (service_again config policies) valid.known.in_services;
  };
  policies = each_weaker (IsFitPolicy config) (IsPolicy (with_policies config policies)) policies (λ policy is. policy_kept config (with_policies config policies) policy (λ name found known. known) is.allowed) each;
  no_repeats = record {
    rules = with_rules AreOnce config policies valid.no_repeats.rules (each_weaker (IsFitPolicy config) (λ (policy : Policy). AreOnce policy.rules) policies (λ policy is. is.rules.once) each);
    interfaces = valid.no_repeats.interfaces;
    sources = valid.no_repeats.sources;
    ingress = each_weaker (IsFitPolicy config) (λ (policy : Policy). IsWithoutRepeats policy.ingress) policies (λ policy is. is.ingress_once) each;
    egress = each_weaker (IsFitPolicy config) (λ (policy : Policy). IsWithoutRepeats policy.egress) policies (λ policy is. is.egress_once) each;
    includes = valid.no_repeats.includes;
    ports = valid.no_repeats.ports;
    protocols = valid.no_repeats.protocols;
    source_ports = valid.no_repeats.source_ports;
    items = valid.no_repeats.items;
  };
  written = with_rules AreWritten config policies valid.written (each_weaker (IsFitPolicy config) (λ (policy : Policy). AreWritten policy.rules) policies (λ policy is. is.rules.written) each);
}

pub changed_policy : (config : Config) (place : ℕ) (old new : Policy) → IsValid config → slice_get config.policies place ≡ Some old → new.name ≡ old.name → IsFitPolicy config new → IsValid (with_policies config (slice_set config.policies place new))
changed_policy config place old new valid at same fit =
    valid_with config (slice_set config.policies place new) valid (subst AreNames (sym (same_given name_of config.policies place old new at same)) valid.names.policies)
    (each_set (IsFitPolicy config) config.policies place new (all_fit config valid) fit)

pub added_policy : (config : Config) (new : Policy) → IsValid config → IsTrue (is_name new.name) → ¬ (IsIn new.name (policy_names config)) → IsFitPolicy config new → IsValid (with_policies config (config.policies ++ new ∷ []))
added_policy config new valid formed fresh fit =
    valid_with config (config.policies ++ new ∷ []) valid (subst AreNames (sym (map_pushed name_of config.policies new)) (record {
      well_formed = each_pushed (λ name. IsTrue (is_name name)) (policy_names config) new.name valid.names.policies.well_formed formed;
      unique = once_pushed (policy_names config) new.name valid.names.policies.unique fresh;
    })) (each_pushed (IsFitPolicy config) config.policies new (all_fit config valid) fit)

pub removed_policy : (config : Config) (place : ℕ) → IsValid config → IsValid (with_policies config (remove config.policies place))
removed_policy config place valid =
    valid_with config (remove config.policies place) valid (subst AreNames (sym (map_removed name_of config.policies place)) (record {
      well_formed = each_removed (λ name. IsTrue (is_name name)) (policy_names config) place valid.names.policies.well_formed;
      unique = once_removed (policy_names config) place valid.names.policies.unique;
    })) (each_removed (IsFitPolicy config) config.policies place (all_fit config valid))

pub policy_there : (config : Config) (place : ℕ) (policy : Policy) → IsValid config → slice_get config.policies place ≡ Some policy → IsFitPolicy config policy
policy_there config place policy valid at = each_in (IsFitPolicy config) config.policies policy (all_fit config valid) (stands config.policies place policy at)
