-- A valid configuration of which parts are others is valid, and timers are of its settings.
use Rattle.std.proofs.Common.{ℕ, List, sym, subst}
use Rattle.fw_model.specs.declared.config.Config.{Config}
use Rattle.fw_model.specs.declared.config.LogDenied.{LogDenied}
use Rattle.fw_model.specs.declared.ipset.IpSet.{IpSet}
use Rattle.fw_model.specs.declared.rules.Rules.{Rules}
use Rattle.fw_model.specs.declared.service.Service.{Service}
use Rattle.fw_model.specs.declared.setting.Timed.{Timed}
use Rattle.fw_parts_valid.specs.Parts.{AreOtherSets, with_parts}
use Rattle.fw_settings.specs.Valid.{AreTimers, IsHeld, subject}
use Rattle.fw_valid.specs.Names.{AreNames, ipset_names, zone_names}
use Rattle.fw_valid.specs.Policies.{IsPolicy}
use Rattle.fw_valid.specs.Rules.{IsService, NamesKnown, SetsKnown, all_rules}
use Rattle.fw_valid.specs.Valid.{IsValid, SourcesKnown}
use Rattle.fw_valid_edits.proofs.Edited.{each_weaker}
use Rattle.fw_valid_edits.proofs.ZoneEdits.{policy_kept}
use Rattle.fw_zone.specs.Lists.{IsIn}

module _ (config : Config) (default_zone : List ℕ) (denied : LogDenied) (ipsets : List IpSet) where
  abbrev new : Config
  new = with_parts config default_zone denied ipsets

  names_again : (rules : Rules) → NamesKnown config rules → NamesKnown new rules
  names_again rules is = record {
    services = is.services;
    icmp_types = is.icmp_types;
    rich_services = is.rich_services;
    rich_icmp_types = is.rich_icmp_types;
  }

  service_again : (service : Service) → IsService config service → IsService new service
  service_again service is = record { includes = is.includes; in_ipv4 = is.in_ipv4; in_ipv6 = is.in_ipv6 }

  pub parts_valid : IsValid config → IsIn default_zone (zone_names config) → AreOtherSets config ipsets → IsValid new
  parts_valid valid there are = record {
    names = record {
      zones = valid.names.zones;
      policies = valid.names.policies;
      services = valid.names.services;
      ipsets = subst AreNames (sym are.names) valid.names.ipsets;
      no_host = valid.names.no_host;
      no_any = valid.names.no_any;
    };
    default_zone = there;
    interfaces = valid.interfaces;
    sources = valid.sources;
    ipsets = record {
      in_sources = each_weaker (SourcesKnown config) (SourcesKnown new) config.zones (λ zone is name found. again name (is name found)) valid.ipsets.in_sources;
      in_rich_rules = each_weaker (SetsKnown config) (SetsKnown new) (all_rules config) (λ rules is rule name found names. again name (is rule name found names)) valid.ipsets.in_rich_rules;
      sets = are.sets;
    };
    known = record {
      in_rules = each_weaker (NamesKnown config) (NamesKnown new) (all_rules config) names_again valid.known.in_rules;
      in_services = each_weaker (IsService config) (IsService new) config.services service_again valid.known.in_services;
    };
    policies = each_weaker (IsPolicy config) (IsPolicy new) config.policies (λ policy is. policy_kept config new policy (λ name found known. known) is) valid.policies;
    no_repeats = record {
      rules = valid.no_repeats.rules;
      interfaces = valid.no_repeats.interfaces;
      sources = valid.no_repeats.sources;
      ingress = valid.no_repeats.ingress;
      egress = valid.no_repeats.egress;
      includes = valid.no_repeats.includes;
      ports = valid.no_repeats.ports;
      protocols = valid.no_repeats.protocols;
      source_ports = valid.no_repeats.source_ports;
      items = are.items;
    };
    written = valid.written;
  }
    where
      again : (name : List ℕ) → IsIn name (ipset_names config) → IsIn name (ipset_names new)
      again name found = subst (λ (names : List (List ℕ)). IsIn name names) (sym are.names) found

  pub parts_timed : (timers : List Timed) → AreTimers config timers → AreTimers new timers
  parts_timed timers are = record {
    held = each_weaker (λ (timed : Timed). IsHeld config (subject timed)) (λ (timed : Timed). IsHeld new (subject timed)) timers
        (λ timed held. record { zone = held.zone; there = held.there; named = held.named; has = held.has }) are.held;
    once = are.once;
    in_time = are.in_time;
  }
