-- A valid configuration in which a zone changes, to which one comes, or from which one goes.
use Rattle.std.proofs.Common.{◌≡◌, ◌≢◌, ℕ, ◌⊎◌, inl, inr, List, [], ◌∷◌, ◌++◌, map, Some, slice_get, slice_set, remove, IsTrue, sym, subst}
use Rattle.fw_addr.specs.WellFormed.{is_name}
use Rattle.fw_model.specs.declared.config.Config.{Config}
use Rattle.fw_model.specs.declared.policy.Policy.{Policy}
use Rattle.fw_model.specs.declared.rules.Rules.{Rules}
use Rattle.fw_model.specs.declared.service.Service.{Service}
use Rattle.fw_model.specs.declared.zone.Zone.{Zone}
use Rattle.fw_valid.specs.Each.{Each, IsWithoutRepeats}
use Rattle.fw_valid.specs.Names.{AreNames, any, host, zone_names}
use Rattle.fw_valid.specs.Policies.{IsNamedZone, IsPolicy, IsSide}
use Rattle.fw_valid.specs.Rules.{AreOnce, IsService, NamesKnown, SetsKnown, all_rules}
use Rattle.fw_valid.specs.Valid.{AreWritten, IsInOneZone, IsValid, SourcesKnown}
use Rattle.fw_valid_edits.proofs.Edited.{all_each, each_behind, each_front, each_in, each_joined, each_mapped, each_of, each_pushed, each_removed, each_set, each_weaker, given_at, in_front, in_pushed, in_removed, map_pushed, map_removed, once_pushed, once_removed, same_given, still_in}
use Rattle.fw_valid_edits.proofs.Entries.{free_beside, one_zone_pushed, one_zone_removed, one_zone_set, stands}
use Rattle.fw_valid_edits.specs.Fit.{AreFit, IsFitZone, with_zones}
use Rattle.fw_zone.specs.Bindings.{interfaces_of, sources_of, with_interfaces, with_sources}
use Rattle.fw_zone.specs.Lists.{IsIn}

abbrev pub name_of : Zone → List ℕ
name_of zone = zone.name

abbrev rules_of : Zone → Rules
rules_of zone = zone.rules

-- a side of a policy, whose zones are still there
side_kept : (config new : Config) (names : List (List ℕ)) → ((name : List ℕ) → IsIn name names → IsIn name (zone_names config) → IsIn name (zone_names new)) → IsSide config names → IsSide new names
side_kept config new names kept (inl host_alone) = inl host_alone
side_kept config new names kept (inr (inl any_alone)) = inr (inl any_alone)
side_kept config new names kept (inr (inr each)) =
    inr (inr (all_each (IsNamedZone new) names (λ name found.
    let named = each_in (IsNamedZone config) names name each found in
    record { known = kept name found named.known; not_host = named.not_host; not_any = named.not_any })))

-- a policy, whose zones are still there
pub policy_kept : (config new : Config) (policy : Policy) → ((name : List ℕ) → (IsIn name policy.ingress ⊎ IsIn name policy.egress) → IsIn name (zone_names config) → IsIn name (zone_names new)) → IsPolicy config policy → IsPolicy new policy
policy_kept config new policy kept is = record {
  priority = is.priority;
  not_with_zones = is.not_with_zones;
  ingress = side_kept config new policy.ingress (λ name found. kept name (inl found)) is.ingress;
  egress = side_kept config new policy.egress (λ name found. kept name (inr found)) is.egress;
  not_host_to_host = is.not_host_to_host;
  masquerade = is.masquerade;
  forward_here = is.forward_here;
  forward_there = is.forward_there;
  mark = is.mark;
}

-- the same names are known beside other zones
names_again : (config : Config) (zones : List Zone) (rules : Rules) → NamesKnown config rules → NamesKnown (with_zones config zones) rules
names_again config zones rules is = record {
  services = is.services;
  icmp_types = is.icmp_types;
  rich_services = is.rich_services;
  rich_icmp_types = is.rich_icmp_types;
}

service_again : (config : Config) (zones : List Zone) (service : Service) → IsService config service → IsService (with_zones config zones) service
service_again config zones service is = record { includes = is.includes; in_ipv4 = is.in_ipv4; in_ipv6 = is.in_ipv6 }

-- the settings of all zones and policies, of which the zones are others
module _ (P : Rules → Type 0) (config : Config) where
  abbrev of_policies : List Rules
  of_policies = map (λ (policy : Policy). policy.rules) config.policies

  rules_of_zones : Each P (all_rules config) → Each (λ (zone : Zone). P zone.rules) config.zones
  rules_of_zones each = each_of rules_of P config.zones (each_front P (map rules_of config.zones) of_policies each)

  with_rules : (zones : List Zone) → Each P (all_rules config) → Each (λ (zone : Zone). P zone.rules) zones → Each P (all_rules (with_zones config zones))
  with_rules zones each new =
      each_joined P (map rules_of zones) of_policies (each_mapped rules_of P zones new) (each_behind P (map rules_of config.zones) of_policies each)

-- all zones of a valid configuration fit, but for their entries
pub record IsSound (config : Config) (zone : Zone) : Type 0 where
  pub rules : AreFit config zone.rules
  pub sets : SourcesKnown config zone
  pub interfaces : IsWithoutRepeats zone.interfaces
  pub sources : IsWithoutRepeats zone.sources

pub all_sound : (config : Config) → IsValid config → Each (IsSound config) config.zones
all_sound config valid = all_each (IsSound config) config.zones (λ zone there. record {
  rules = record {
    known = each_in (λ (zone : Zone). NamesKnown config zone.rules) config.zones zone (rules_of_zones (NamesKnown config) config valid.known.in_rules) there;
    sets = each_in (λ (zone : Zone). SetsKnown config zone.rules) config.zones zone (rules_of_zones (SetsKnown config) config valid.ipsets.in_rich_rules) there;
    once = each_in (λ (zone : Zone). AreOnce zone.rules) config.zones zone (rules_of_zones AreOnce config valid.no_repeats.rules) there;
    written = each_in (λ (zone : Zone). AreWritten zone.rules) config.zones zone (rules_of_zones AreWritten config valid.written) there;
  };
  sets = each_in (SourcesKnown config) config.zones zone valid.ipsets.in_sources there;
  interfaces = each_in (λ (zone : Zone). IsWithoutRepeats zone.interfaces) config.zones zone valid.no_repeats.interfaces there;
  sources = each_in (λ (zone : Zone). IsWithoutRepeats zone.sources) config.zones zone valid.no_repeats.sources there;
})

sound : (config : Config) (others : List Zone) (zone : Zone) → IsFitZone config others zone → IsSound config zone
sound config others zone fit = record { rules = fit.rules; sets = fit.sets; interfaces = fit.interfaces_once; sources = fit.sources_once }

-- a name that a policy has is still that of a zone
abbrev pub Known : (config : Config) → List Zone → Policy → Type 0
Known config zones policy =
    (name : List ℕ) → (IsIn name policy.ingress ⊎ IsIn name policy.egress) → IsIn name (zone_names config) → IsIn name (map name_of zones)

-- what is asked of other zones, so that they keep a configuration valid
pub record KeepValid (config : Config) (zones : List Zone) : Type 0 where
  pub names : AreNames (map name_of zones)
  pub no_host : ¬ (IsIn host (map name_of zones))
  pub no_any : ¬ (IsIn any (map name_of zones))
  pub default_zone : IsIn config.default_zone (map name_of zones)
  pub in_policies : Each (Known config zones) config.policies
  pub interfaces : IsInOneZone interfaces_of with_interfaces zones
  pub sources : IsInOneZone sources_of with_sources zones
  pub each : Each (IsSound config) zones

pub valid_with : (config : Config) (zones : List Zone) → IsValid config → KeepValid config zones → IsValid (with_zones config zones)
valid_with config zones valid keep = record {
  names = record {
    zones = keep.names;
    policies = valid.names.policies;
    services = valid.names.services;
    ipsets = valid.names.ipsets;
    no_host = keep.no_host;
    no_any = keep.no_any;
  };
  default_zone = keep.default_zone;
  interfaces = keep.interfaces;
  sources = keep.sources;
  ipsets = record {
    in_sources = each_weaker (IsSound config) (SourcesKnown config) zones (λ zone is. is.sets) keep.each;
    in_rich_rules = with_rules (SetsKnown config) config zones valid.ipsets.in_rich_rules (each_weaker (IsSound config) (λ (zone : Zone). SetsKnown config zone.rules) zones (λ zone is. is.rules.sets) keep.each);
    sets = valid.ipsets.sets;
  };
  known = record {
    in_rules =
        each_weaker (NamesKnown config) (NamesKnown (with_zones config zones)) (all_rules (with_zones config zones)) (names_again config zones)
        (with_rules (NamesKnown config) config zones valid.known.in_rules (each_weaker (IsSound config) (λ (zone : Zone). NamesKnown config zone.rules) zones (λ zone is. is.rules.known) keep.each));
    in_services = each_weaker (IsService config) (IsService (with_zones config zones)) config.services (service_again config zones) valid.known.in_services;
  };
  policies = all_each (IsPolicy (with_zones config zones)) config.policies (λ policy there.
      policy_kept config (with_zones config zones) policy (each_in (Known config zones) config.policies policy keep.in_policies there) (each_in (IsPolicy config) config.policies policy valid.policies there));
  no_repeats = record {
    rules = with_rules AreOnce config zones valid.no_repeats.rules (each_weaker (IsSound config) (λ (zone : Zone). AreOnce zone.rules) zones (λ zone is. is.rules.once) keep.each);
    interfaces = each_weaker (IsSound config) (λ (zone : Zone). IsWithoutRepeats zone.interfaces) zones (λ zone is. is.interfaces) keep.each;
    sources = each_weaker (IsSound config) (λ (zone : Zone). IsWithoutRepeats zone.sources) zones (λ zone is. is.sources) keep.each;
    ingress = valid.no_repeats.ingress;
    egress = valid.no_repeats.egress;
    includes = valid.no_repeats.includes;
    ports = valid.no_repeats.ports;
    protocols = valid.no_repeats.protocols;
    source_ports = valid.no_repeats.source_ports;
    items = valid.no_repeats.items;
  };
  written = with_rules AreWritten config zones valid.written (each_weaker (IsSound config) (λ (zone : Zone). AreWritten zone.rules) zones (λ zone is. is.rules.written) keep.each);
}

-- all policies name zones that are still there, where every name is
pub all_known : (config : Config) (zones : List Zone) → ((name : List ℕ) → IsIn name (zone_names config) → IsIn name (map name_of zones)) → Each (Known config zones) config.policies
all_known config zones kept = all_each (Known config zones) config.policies (λ policy there name found known. kept name known)

pub changed_zone : (config : Config) (place : ℕ) (old new : Zone) → IsValid config → slice_get config.zones place ≡ Some old → new.name ≡ old.name → IsFitZone config (remove config.zones place) new → IsValid (with_zones config (slice_set config.zones place new))
changed_zone config place old new valid at same fit = valid_with config (slice_set config.zones place new) valid (record {
  names = subst AreNames named valid.names.zones;
  no_host = subst (λ (names : List (List ℕ)). ¬ (IsIn host names)) named valid.names.no_host;
  no_any = subst (λ (names : List (List ℕ)). ¬ (IsIn any names)) named valid.names.no_any;
  default_zone = subst (λ (names : List (List ℕ)). IsIn config.default_zone names) named valid.default_zone;
  in_policies = all_known config (slice_set config.zones place new) (λ name there. subst (λ (names : List (List ℕ)). IsIn name names) named there);
  interfaces = one_zone_set interfaces_of with_interfaces config.zones place old new valid.interfaces at fit.interfaces_free;
  sources = one_zone_set sources_of with_sources config.zones place old new valid.sources at fit.sources_free;
  each = each_set (IsSound config) config.zones place new (all_sound config valid) (sound config (remove config.zones place) new fit);
})
  where
    named : zone_names config ≡ map name_of (slice_set config.zones place new)
    named = sym (same_given name_of config.zones place old new at same)

pub added_zone : (config : Config) (new : Zone) → IsValid config → IsTrue (is_name new.name) → new.name ≢ host → new.name ≢ any → ¬ (IsIn new.name (zone_names config)) → IsFitZone config config.zones new → IsValid (with_zones config (config.zones ++ new ∷ []))
added_zone config new valid formed not_host not_any fresh fit = valid_with config (config.zones ++ new ∷ []) valid (record {
  names = subst AreNames named (record {
    well_formed = each_pushed (λ name. IsTrue (is_name name)) (zone_names config) new.name valid.names.zones.well_formed formed;
    unique = once_pushed (zone_names config) new.name valid.names.zones.unique fresh;
  });
  no_host = subst (λ (names : List (List ℕ)). ¬ (IsIn host names)) named (λ found. elim (in_pushed (zone_names config) new.name host found) [ inl there ↦ valid.names.no_host there | inr same ↦ not_host same ]);
  no_any = subst (λ (names : List (List ℕ)). ¬ (IsIn any names)) named (λ found. elim (in_pushed (zone_names config) new.name any found) [ inl there ↦ valid.names.no_any there | inr same ↦ not_any same ]);
  default_zone = still config.default_zone valid.default_zone;
  in_policies = all_known config (config.zones ++ new ∷ []) still;
  interfaces = one_zone_pushed interfaces_of with_interfaces config.zones new valid.interfaces fit.interfaces_free;
  sources = one_zone_pushed sources_of with_sources config.zones new valid.sources fit.sources_free;
  each = each_pushed (IsSound config) config.zones new (all_sound config valid) (sound config config.zones new fit);
})
  where
    named : zone_names config ++ new.name ∷ [] ≡ map name_of (config.zones ++ new ∷ [])
    named = sym (map_pushed name_of config.zones new)

    still : (name : List ℕ) → IsIn name (zone_names config) → IsIn name (map name_of (config.zones ++ new ∷ []))
    still name there = subst (λ (names : List (List ℕ)). IsIn name names) named (in_front (zone_names config) (new.name ∷ []) name there)

-- a policy doesn't name a zone
abbrev Unnamed : (name : List ℕ) → Policy → Type 0
Unnamed name policy = (¬ (IsIn name policy.ingress)) × (¬ (IsIn name policy.egress))

pub removed_zone : (config : Config) (place : ℕ) (old : Zone) → IsValid config → slice_get config.zones place ≡ Some old → config.default_zone ≢ old.name → Each (Unnamed old.name) config.policies → IsValid (with_zones config (remove config.zones place))
removed_zone config place old valid at other unnamed = valid_with config (remove config.zones place) valid (record {
  names = subst AreNames named (record {
    well_formed = each_removed (λ name. IsTrue (is_name name)) (zone_names config) place valid.names.zones.well_formed;
    unique = once_removed (zone_names config) place valid.names.zones.unique;
  });
  no_host = subst (λ (names : List (List ℕ)). ¬ (IsIn host names)) named (λ found. valid.names.no_host (in_removed (zone_names config) place host found));
  no_any = subst (λ (names : List (List ℕ)). ¬ (IsIn any names)) named (λ found. valid.names.no_any (in_removed (zone_names config) place any found));
  default_zone = still config.default_zone (λ same. other (sym same)) valid.default_zone;
  in_policies = all_each (Known config (remove config.zones place)) config.policies (λ policy there name found known. still name (differs policy there name found) known);
  interfaces = one_zone_removed interfaces_of with_interfaces config.zones place valid.interfaces;
  sources = one_zone_removed sources_of with_sources config.zones place valid.sources;
  each = each_removed (IsSound config) config.zones place (all_sound config valid);
})
  where
    named : remove (zone_names config) place ≡ map name_of (remove config.zones place)
    named = sym (map_removed name_of config.zones place)

    still : (name : List ℕ) → old.name ≢ name → IsIn name (zone_names config) → IsIn name (map name_of (remove config.zones place))
    still name differs there =
        subst (λ (names : List (List ℕ)). IsIn name names) named (still_in (zone_names config) place old.name name (given_at name_of config.zones place old at) differs there)

    differs : (policy : Policy) → IsIn policy config.policies → (name : List ℕ) → (IsIn name policy.ingress ⊎ IsIn name policy.egress) → old.name ≢ name
    differs policy there name (inl found) same =
        (each_in (Unnamed old.name) config.policies policy unnamed there).0 (subst (λ (one : List ℕ). IsIn one policy.ingress) (sym same) found)
    differs policy there name (inr found) same =
        (each_in (Unnamed old.name) config.policies policy unnamed there).1 (subst (λ (one : List ℕ). IsIn one policy.egress) (sym same) found)

pub zone_beside : (config : Config) (place : ℕ) (zone : Zone) → IsValid config → slice_get config.zones place ≡ Some zone → IsFitZone config (remove config.zones place) zone
zone_beside config place zone valid at =
    let is = each_in (IsSound config) config.zones zone (all_sound config valid) (stands config.zones place zone at) in
    record {
      rules = is.rules;
      sets = is.sets;
      interfaces_once = is.interfaces;
      sources_once = is.sources;
      interfaces_free = free_beside interfaces_of with_interfaces config.zones place zone valid.interfaces at;
      sources_free = free_beside sources_of with_sources config.zones place zone valid.sources at;
    }
