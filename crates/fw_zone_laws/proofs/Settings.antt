-- The settings of a zone or a policy with one more, and with one less.
use Rattle.std.proofs.Common.{◌≡◌, ◌⊎◌, inl, inr, ℕ, List, [], ◌∷◌, ◌++◌, Some, subst}
use Rattle.fw_model.specs.declared.config.Config.{Config}
use Rattle.fw_model.specs.declared.rich.Element.TheVariants as element
use Rattle.fw_model.specs.declared.rich.Rich.{Rich}
use Rattle.fw_model.specs.declared.rules.Rules.{Rules}
use Rattle.fw_model.specs.declared.setting.Setting.{Setting}
use Rattle.fw_model.specs.declared.setting.Setting.TheVariants as setting
use Rattle.fw_valid.specs.Names.{IsIcmpType, ipset_names, service_names}
use Rattle.fw_valid.specs.Riches.{IsRich}
use Rattle.fw_valid.specs.Rules.{IsPlainForward, NamesSet}
use Rattle.fw_zone.specs.Lists.{IsIn}
use Rattle.fw_zone.specs.Settings.{Has, with_setting}
use Rattle.fw_valid_edits.specs.Fit.{AreFit}
use Rattle.fw_zone_laws.specs.Settings.{IsKnownRule, IsSetting}
use Rattle.fw_zone_laws.proofs.Lists.{each_more, in_more, once_more}

module _ (config : Config) (rules : Rules) (are : AreFit config rules) where
  -- a rule of the list with one more is that one, or one of the list
  with_rule : (rule : Rich) → IsKnownRule config rule → ¬ (IsIn rule rules.rich) → AreFit config (record rules { rich = rules.rich ++ rule ∷ [] })
  with_rule rule known apart = record {
    sets = λ found name there names. by_sets found name names (in_more found rule rules.rich there);
    known = record {
      services = are.known.services;
      icmp_types = are.known.icmp_types;
      rich_services = λ found name there is. by_services found name is (in_more found rule rules.rich there);
      rich_icmp_types = λ found name there is. by_types found name is (in_more found rule rules.rich there);
    };
    once = record { services = are.once.services; ports = are.once.ports; protocols = are.once.protocols; source_ports = are.once.source_ports; icmp_blocks = are.once.icmp_blocks; forwards = are.once.forwards; rich = once_more rules.rich rule are.once.rich apart };
    written = record { rich_rules = each_more IsRich rules.rich rule are.written.rich_rules known.rich; forward_ports = are.written.forward_ports };
  }
    where
      by_sets : (found : Rich) (name : List ℕ) → (NamesSet found.source name ⊎ NamesSet found.dest name) → IsIn found rules.rich ⊎ (rule ≡ found) → IsIn name (ipset_names config)
      by_sets found name names (inl there) = are.sets found name there names
      by_sets found name names (inr is) = subst (λ found. (NamesSet found.source name ⊎ NamesSet found.dest name) → IsIn name (ipset_names config)) is (known.ipsets name) names

      by_services : (found : Rich) (name : List ℕ) → found.element ≡ Some (element.Service name) → IsIn found rules.rich ⊎ (rule ≡ found) → IsIn name (service_names config)
      by_services found name is (inl there) = are.known.rich_services found name there is
      by_services found name is (inr same) = subst (λ found. found.element ≡ Some (element.Service name) → IsIn name (service_names config)) same (known.service name) is

      by_types : (found : Rich) (name : List ℕ) → ((found.element ≡ Some (element.IcmpBlock name)) ⊎ (found.element ≡ Some (element.IcmpType name)))
          → IsIn found rules.rich ⊎ (rule ≡ found) → IsIcmpType name
      by_types found name is (inl there) = are.known.rich_icmp_types found name there is
      by_types found name is (inr same) =
          subst (λ found. ((found.element ≡ Some (element.IcmpBlock name)) ⊎ (found.element ≡ Some (element.IcmpType name))) → IsIcmpType name) same (known.icmp_type name) is

  -- a setting more, which is valid by itself and wasn't there
  pub rules_with : (one : Setting) → IsSetting config one → ¬ (Has rules one) → AreFit config (with_setting rules one)
  rules_with (setting.Service name) known apart = record {
    sets = are.sets;
    known = record {
      services = each_more (λ name. IsIn name (service_names config)) rules.services name are.known.services known;
      icmp_types = are.known.icmp_types;
      rich_services = are.known.rich_services;
      rich_icmp_types = are.known.rich_icmp_types;
    };
    once = record { services = once_more rules.services name are.once.services apart; ports = are.once.ports; protocols = are.once.protocols; source_ports = are.once.source_ports; icmp_blocks = are.once.icmp_blocks; forwards = are.once.forwards; rich = are.once.rich };
    written = record { rich_rules = are.written.rich_rules; forward_ports = are.written.forward_ports };
  }
  rules_with (setting.Port port) known apart = record {
    sets = are.sets;
    known = record {
      services = are.known.services;
      icmp_types = are.known.icmp_types;
      rich_services = are.known.rich_services;
      rich_icmp_types = are.known.rich_icmp_types;
    };
    once = record { services = are.once.services; ports = once_more rules.ports port are.once.ports apart; protocols = are.once.protocols; source_ports = are.once.source_ports; icmp_blocks = are.once.icmp_blocks; forwards = are.once.forwards; rich = are.once.rich };
    written = record { rich_rules = are.written.rich_rules; forward_ports = are.written.forward_ports };
  }
  rules_with (setting.Protocol protocol) known apart = record {
    sets = are.sets;
    known = record {
      services = are.known.services;
      icmp_types = are.known.icmp_types;
      rich_services = are.known.rich_services;
      rich_icmp_types = are.known.rich_icmp_types;
    };
    once = record { services = are.once.services; ports = are.once.ports; protocols = once_more rules.protocols protocol are.once.protocols apart; source_ports = are.once.source_ports; icmp_blocks = are.once.icmp_blocks; forwards = are.once.forwards; rich = are.once.rich };
    written = record { rich_rules = are.written.rich_rules; forward_ports = are.written.forward_ports };
  }
  rules_with (setting.SourcePort port) known apart = record {
    sets = are.sets;
    known = record {
      services = are.known.services;
      icmp_types = are.known.icmp_types;
      rich_services = are.known.rich_services;
      rich_icmp_types = are.known.rich_icmp_types;
    };
    once = record { services = are.once.services; ports = are.once.ports; protocols = are.once.protocols; source_ports = once_more rules.source_ports port are.once.source_ports apart; icmp_blocks = are.once.icmp_blocks; forwards = are.once.forwards; rich = are.once.rich };
    written = record { rich_rules = are.written.rich_rules; forward_ports = are.written.forward_ports };
  }
  rules_with (setting.IcmpBlock name) known apart = record {
    sets = are.sets;
    known = record {
      services = are.known.services;
      icmp_types = each_more IsIcmpType rules.icmp_blocks name are.known.icmp_types known;
      rich_services = are.known.rich_services;
      rich_icmp_types = are.known.rich_icmp_types;
    };
    once = record { services = are.once.services; ports = are.once.ports; protocols = are.once.protocols; source_ports = are.once.source_ports; icmp_blocks = once_more rules.icmp_blocks name are.once.icmp_blocks apart; forwards = are.once.forwards; rich = are.once.rich };
    written = record { rich_rules = are.written.rich_rules; forward_ports = are.written.forward_ports };
  }
  rules_with setting.Masquerade known apart = record {
    sets = are.sets;
    known = record {
      services = are.known.services;
      icmp_types = are.known.icmp_types;
      rich_services = are.known.rich_services;
      rich_icmp_types = are.known.rich_icmp_types;
    };
    once = record {
      services = are.once.services;
      ports = are.once.ports;
      protocols = are.once.protocols;
      source_ports = are.once.source_ports;
      icmp_blocks = are.once.icmp_blocks;
      forwards = are.once.forwards;
      rich = are.once.rich;
    };
    written = record { rich_rules = are.written.rich_rules; forward_ports = are.written.forward_ports };
  }
  rules_with (setting.Forward forward) known apart = record {
    sets = are.sets;
    known = record {
      services = are.known.services;
      icmp_types = are.known.icmp_types;
      rich_services = are.known.rich_services;
      rich_icmp_types = are.known.rich_icmp_types;
    };
    once = record { services = are.once.services; ports = are.once.ports; protocols = are.once.protocols; source_ports = are.once.source_ports; icmp_blocks = are.once.icmp_blocks; forwards = once_more rules.forwards forward are.once.forwards apart; rich = are.once.rich };
    written = record { rich_rules = are.written.rich_rules; forward_ports = each_more IsPlainForward rules.forwards forward are.written.forward_ports known };
  }
  rules_with (setting.Rich rule) known apart = with_rule rule known apart
