-- The settings of a zone or a policy with one less.
use Rattle.std.proofs.Common.{nat_eq, bytes_eq}
use Rattle.fw_answer.specs.Equal.{same_port, same_rule}
use Rattle.fw_model.specs.declared.config.Config.{Config}
use Rattle.fw_model.specs.declared.rules.Rules.{Rules}
use Rattle.fw_model.specs.declared.setting.Setting.{Setting}
use Rattle.fw_model.specs.declared.setting.Setting.TheVariants as setting
use Rattle.fw_valid.specs.Names.{IsIcmpType, service_names}
use Rattle.fw_valid.specs.Riches.{IsRich}
use Rattle.fw_valid.specs.Rules.{IsPlainForward}
use Rattle.fw_zone.specs.Lists.{IsIn}
use Rattle.fw_zone_edits.specs.Settings.{same_forward, without_setting}
use Rattle.fw_valid_edits.specs.Fit.{AreFit}
use Rattle.fw_zone_laws.proofs.Lists.{each_less, in_less, once_less}

module _ (config : Config) (rules : Rules) (are : AreFit config rules) where
  pub rules_without : (one : Setting) → AreFit config (without_setting rules one)
  rules_without (setting.Service name) = record {
    sets = are.sets;
    known = record { services = each_less bytes_eq (λ name. IsIn name (service_names config)) rules.services name are.known.services; icmp_types = are.known.icmp_types; rich_services = are.known.rich_services; rich_icmp_types = are.known.rich_icmp_types };
    once = record { services = once_less bytes_eq rules.services name are.once.services; ports = are.once.ports; protocols = are.once.protocols; source_ports = are.once.source_ports; icmp_blocks = are.once.icmp_blocks; forwards = are.once.forwards; rich = are.once.rich };
    written = record { rich_rules = are.written.rich_rules; forward_ports = are.written.forward_ports };
  }
  rules_without (setting.Port port) = record {
    sets = are.sets;
    known = record { services = are.known.services; icmp_types = are.known.icmp_types; rich_services = are.known.rich_services; rich_icmp_types = are.known.rich_icmp_types };
    once = record { services = are.once.services; ports = once_less same_port rules.ports port are.once.ports; protocols = are.once.protocols; source_ports = are.once.source_ports; icmp_blocks = are.once.icmp_blocks; forwards = are.once.forwards; rich = are.once.rich };
    written = record { rich_rules = are.written.rich_rules; forward_ports = are.written.forward_ports };
  }
  rules_without (setting.Protocol protocol) = record {
    sets = are.sets;
    known = record { services = are.known.services; icmp_types = are.known.icmp_types; rich_services = are.known.rich_services; rich_icmp_types = are.known.rich_icmp_types };
    once = record { services = are.once.services; ports = are.once.ports; protocols = once_less nat_eq rules.protocols protocol are.once.protocols; source_ports = are.once.source_ports; icmp_blocks = are.once.icmp_blocks; forwards = are.once.forwards; rich = are.once.rich };
    written = record { rich_rules = are.written.rich_rules; forward_ports = are.written.forward_ports };
  }
  rules_without (setting.SourcePort port) = record {
    sets = are.sets;
    known = record { services = are.known.services; icmp_types = are.known.icmp_types; rich_services = are.known.rich_services; rich_icmp_types = are.known.rich_icmp_types };
    once = record { services = are.once.services; ports = are.once.ports; protocols = are.once.protocols; source_ports = once_less same_port rules.source_ports port are.once.source_ports; icmp_blocks = are.once.icmp_blocks; forwards = are.once.forwards; rich = are.once.rich };
    written = record { rich_rules = are.written.rich_rules; forward_ports = are.written.forward_ports };
  }
  rules_without (setting.IcmpBlock name) = record {
    sets = are.sets;
    known = record { services = are.known.services; icmp_types = each_less bytes_eq IsIcmpType rules.icmp_blocks name are.known.icmp_types; rich_services = are.known.rich_services; rich_icmp_types = are.known.rich_icmp_types };
    once = record { services = are.once.services; ports = are.once.ports; protocols = are.once.protocols; source_ports = are.once.source_ports; icmp_blocks = once_less bytes_eq rules.icmp_blocks name are.once.icmp_blocks; forwards = are.once.forwards; rich = are.once.rich };
    written = record { rich_rules = are.written.rich_rules; forward_ports = are.written.forward_ports };
  }
  rules_without setting.Masquerade = record {
    sets = are.sets;
    known = record { services = are.known.services; icmp_types = are.known.icmp_types; rich_services = are.known.rich_services; rich_icmp_types = are.known.rich_icmp_types };
    once = record { services = are.once.services; ports = are.once.ports; protocols = are.once.protocols; source_ports = are.once.source_ports; icmp_blocks = are.once.icmp_blocks; forwards = are.once.forwards; rich = are.once.rich };
    written = record { rich_rules = are.written.rich_rules; forward_ports = are.written.forward_ports };
  }
  rules_without (setting.Forward forward) = record {
    sets = are.sets;
    known = record { services = are.known.services; icmp_types = are.known.icmp_types; rich_services = are.known.rich_services; rich_icmp_types = are.known.rich_icmp_types };
    once = record { services = are.once.services; ports = are.once.ports; protocols = are.once.protocols; source_ports = are.once.source_ports; icmp_blocks = are.once.icmp_blocks; forwards = once_less same_forward rules.forwards forward are.once.forwards; rich = are.once.rich };
    written = record { rich_rules = are.written.rich_rules; forward_ports = each_less same_forward IsPlainForward rules.forwards forward are.written.forward_ports };
  }
  rules_without (setting.Rich rule) = record {
    sets = λ found name there. are.sets found name (in_less same_rule found rule rules.rich there);
    known = record { services = are.known.services; icmp_types = are.known.icmp_types; rich_services = λ found name there. are.known.rich_services found name (in_less same_rule found rule rules.rich there); rich_icmp_types = λ found name there. are.known.rich_icmp_types found name (in_less same_rule found rule rules.rich there) };
    once = record { services = are.once.services; ports = are.once.ports; protocols = are.once.protocols; source_ports = are.once.source_ports; icmp_blocks = are.once.icmp_blocks; forwards = are.once.forwards; rich = once_less same_rule rules.rich rule are.once.rich };
    written = record { rich_rules = each_less same_rule IsRich rules.rich rule are.written.rich_rules; forward_ports = are.written.forward_ports };
  }
