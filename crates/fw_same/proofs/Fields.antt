-- Records whose parts are the same are the same.
use Rattle.std.proofs.Common.{◌≡◌}
use Rattle.fw_model.specs.declared.notes.Notes.{Notes}
use Rattle.fw_model.specs.declared.rules.Rules.{Rules}
use Rattle.fw_model.specs.declared.setting.Timed.{Timed}
use Rattle.fw_model.specs.declared.zone.Zone.{Zone}
use Rattle.fw_model.specs.declared.policy.Policy.{Policy}
use Rattle.fw_model.specs.declared.service.Service.{Service}
use Rattle.fw_model.specs.declared.ipset.IpSet.{IpSet}
use Rattle.fw_model.specs.declared.config.Config.{Config}
use Rattle.fw_model.specs.declared.runtime.Runtime.{Runtime}

pub notes_from_fields : (one other : Notes) → one.version ≡ other.version → one.short ≡ other.short → one.description ≡ other.description → one ≡ other
notes_from_fields one other version_is short_is description_is =
    λ i. record { version = version_is i; short = short_is i; description = description_is i }

pub rules_from_fields : (one other : Rules) → one.services ≡ other.services → one.ports ≡ other.ports → one.protocols ≡ other.protocols → one.source_ports ≡ other.source_ports → one.icmp_blocks ≡ other.icmp_blocks → one.masquerade ≡ other.masquerade → one.forwards ≡ other.forwards → one.rich ≡ other.rich → one ≡ other
rules_from_fields one other services_is ports_is protocols_is source_ports_is icmp_blocks_is masquerade_is forwards_is rich_is =
    λ i. record { services = services_is i; ports = ports_is i; protocols = protocols_is i; source_ports = source_ports_is i; icmp_blocks = icmp_blocks_is i; masquerade = masquerade_is i; forwards = forwards_is i; rich = rich_is i }

pub zone_from_fields : (one other : Zone) → one.name ≡ other.name → one.notes ≡ other.notes → one.target ≡ other.target → one.rules ≡ other.rules → one.inversion ≡ other.inversion → one.forward ≡ other.forward → one.interfaces ≡ other.interfaces → one.sources ≡ other.sources → one ≡ other
zone_from_fields one other name_is notes_is target_is rules_is inversion_is forward_is interfaces_is sources_is =
    λ i. record { name = name_is i; notes = notes_is i; target = target_is i; rules = rules_is i; inversion = inversion_is i; forward = forward_is i; interfaces = interfaces_is i; sources = sources_is i }

pub policy_from_fields : (one other : Policy) → one.name ≡ other.name → one.notes ≡ other.notes → one.target ≡ other.target → one.priority ≡ other.priority → one.ingress ≡ other.ingress → one.egress ≡ other.egress → one.rules ≡ other.rules → one ≡ other
policy_from_fields one other name_is notes_is target_is priority_is ingress_is egress_is rules_is =
    λ i. record { name = name_is i; notes = notes_is i; target = target_is i; priority = priority_is i; ingress = ingress_is i; egress = egress_is i; rules = rules_is i }

pub service_from_fields : (one other : Service) → one.name ≡ other.name → one.includes ≡ other.includes → one.ports ≡ other.ports → one.protocols ≡ other.protocols → one.source_ports ≡ other.source_ports → one.v4 ≡ other.v4 → one.v6 ≡ other.v6 → one ≡ other
service_from_fields one other name_is includes_is ports_is protocols_is source_ports_is v4_is v6_is =
    λ i. record { name = name_is i; includes = includes_is i; ports = ports_is i; protocols = protocols_is i; source_ports = source_ports_is i; v4 = v4_is i; v6 = v6_is i }

pub ipset_from_fields : (one other : IpSet) → one.name ≡ other.name → one.kind ≡ other.kind → one.family ≡ other.family → one.timeout ≡ other.timeout → one.items ≡ other.items → one ≡ other
ipset_from_fields one other name_is kind_is family_is timeout_is items_is =
    λ i. record { name = name_is i; kind = kind_is i; family = family_is i; timeout = timeout_is i; items = items_is i }

pub config_from_fields : (one other : Config) → one.default_zone ≡ other.default_zone → one.log_denied ≡ other.log_denied → one.zones ≡ other.zones → one.policies ≡ other.policies → one.services ≡ other.services → one.ipsets ≡ other.ipsets → one ≡ other
config_from_fields one other default_zone_is log_denied_is zones_is policies_is services_is ipsets_is =
    λ i. record { default_zone = default_zone_is i; log_denied = log_denied_is i; zones = zones_is i; policies = policies_is i; services = services_is i; ipsets = ipsets_is i }

pub runtime_from_fields : (one other : Runtime) → one.panic ≡ other.panic → one.config ≡ other.config → one ≡ other
runtime_from_fields one other panic_is config_is =
    λ i. record { panic = panic_is i; config = config_is i }

pub timed_from_fields : (one other : Timed) → one.zone ≡ other.zone → one.setting ≡ other.setting → one.deadline ≡ other.deadline → one ≡ other
timed_from_fields one other zone_is setting_is deadline_is =
    λ i. record { zone = zone_is i; setting = setting_is i; deadline = deadline_is i }
