-- Objects of the permanent settings: what is written is read.
use Rattle.std.proofs.Common.{◌≡◌, ◌<◌, ◌^◌, List, [], ◌∷◌, ◌++◌, Ok, IsTrue, codes, map, refl, ap}
use Rattle.fw_addr.specs.Interfaces.{interface, is_interface}
use Rattle.fw_load.specs.Fields.{field, known, list_in}
use Rattle.fw_load.specs.Objects as objects
use Rattle.fw_load.specs.Values as said
use Rattle.fw_model.specs.declared.config.Config.{Config}
use Rattle.fw_model.specs.declared.config.LogDenied.{LogDenied}
use Rattle.fw_model.specs.declared.config.LogDenied.TheVariants as logs
use Rattle.fw_model.specs.declared.ipset.IpSet.{IpSet}
use Rattle.fw_model.specs.declared.ipset.SetKind.{SetKind}
use Rattle.fw_model.specs.declared.ipset.SetKind.TheVariants as kinds
use Rattle.fw_addr.specs.declared.packet.Family.{Family}
use Rattle.fw_addr.specs.declared.packet.Family.TheVariants as families
use Rattle.fw_model.specs.declared.policy.Policy.{Policy}
use Rattle.fw_model.specs.declared.policy.PolicyTarget.{PolicyTarget}
use Rattle.fw_model.specs.declared.policy.PolicyTarget.TheVariants as policies
use Rattle.fw_model.specs.declared.rules.Rules.{Rules}
use Rattle.fw_model.specs.declared.service.Service.{Service}
use Rattle.fw_model.specs.declared.zone.Zone.{Zone}
use Rattle.fw_model.specs.declared.zone.ZoneTarget.{ZoneTarget}
use Rattle.fw_model.specs.declared.zone.ZoneTarget.TheVariants as zones
use Rattle.fw_restore_law.proofs.Single.{destination_read, field_read, forward_read, interface_read, list_read, names_read, port_read, whole_read}
use Rattle.fw_restore_law.proofs.Printed.{Printed}
use Rattle.fw_restore_law.specs.Ranges.{IsEntry, IsInRange, IsPolicyInRange, IsPort, IsServiceInRange, IsSetInRange, IsZoneInRange}
use Rattle.fw_rich.specs.Canonical.{canon}
use Rattle.fw_rich_law.specs.Values.{HasValues, IsBinding, IsForward}
use Rattle.fw_store.specs.Objects.{config_data, forward_data, ipset_data, policy_data, port_data, service_data, zone_data}
use Rattle.fw_store.specs.Texts.{entry_text, kind_text, log_denied_text, policy_target_text, set_family_text, source_text, zone_target_text}
use Rattle.fw_valid.specs.Each.{Each}
use Rattle.fw_valid.specs.Riches.{IsRich}
use Rattle.fw_valid.specs.Valid.{AreWritten, IsValid}
use Rattle.fw_addr.specs.Protocols.{proto_text}
use Rattle.fw_text.specs.Names.{named}
use Rattle.serde_json.specs.Data.{string}

kind_read : (kind : SetKind) → said.text_by (named said.kind_names) (string (kind_text kind)) ≡ Ok kind
kind_read kinds.Ip = refl
kind_read kinds.Net = refl
kind_read kinds.Mac = refl

family_read : (family : Family) → said.text_by (named said.family_names) (string (set_family_text family)) ≡ Ok family
family_read families.V4 = refl
family_read families.V6 = refl

ipset_known : (set : IpSet) → known objects.ipset_keys (ipset_data set) ≡ Ok tt
unfolding known objects.ipset_keys
ipset_known set = refl

pub ipset_read : Printed → (set : IpSet) → IsSetInRange set → objects.ipset (ipset_data set) ≡ Ok set
unfolding objects.ipset
ipset_read printed set is =
    let known = ipset_known set in
    let name : field said.text (codes "name") (ipset_data set) ≡ Ok set.name = field_read _ _ _ _ _ refl refl in
    let kind : field (said.text_by (named said.kind_names)) (codes "type") (ipset_data set) ≡ Ok set.kind = field_read _ _ _ _ _ refl (kind_read set.kind) in
    let family : field (said.text_by (named said.family_names)) (codes "family") (ipset_data set) ≡ Ok set.family = field_read _ _ _ _ _ refl (family_read set.family) in
    let timeout : field said.truth (codes "timeout") (ipset_data set) ≡ Ok set.timeout = field_read _ _ _ _ _ refl refl in
    let items : field (list_in (said.text_by said.entry)) (codes "entries") (ipset_data set) ≡ Ok set.items = field_read _ _ _ _ _ refl (list_read (said.text_by said.entry) (λ entry. string (entry_text entry)) IsEntry (λ entry fits. ap said.or_fault (printed.entries entry fits)) set.items is.items) in
    rw (known, name, kind, family, timeout, items) refl

service_known : (service : Service) → known objects.service_keys (service_data service) ≡ Ok tt
unfolding known objects.service_keys
service_known service = refl

pub service_read : Printed → (service : Service) → IsServiceInRange service → objects.service (service_data service) ≡ Ok service
unfolding objects.service
service_read printed service is =
    let known = service_known service in
    let name : field said.text (codes "name") (service_data service) ≡ Ok service.name = field_read _ _ _ _ _ refl refl in
    let includes : field (list_in said.text) (codes "includes") (service_data service) ≡ Ok service.includes = field_read _ _ _ _ _ refl (names_read service.includes) in
    let ports : field (list_in said.port) (codes "ports") (service_data service) ≡ Ok service.ports = field_read _ _ _ _ _ refl (list_read said.port port_data IsPort (port_read printed) service.ports is.ports) in
    let protocols : field (list_in (said.text_by said.protocol)) (codes "protocols") (service_data service) ≡ Ok service.protocols = field_read _ _ _ _ _ refl (list_read (said.text_by said.protocol) (λ protocol. string (proto_text protocol)) (λ protocol. protocol < 2 ^ 8) (λ protocol fits. ap said.or_fault (printed.protocols protocol fits)) service.protocols is.protocols) in
    let source_ports : field (list_in said.port) (codes "source_ports") (service_data service) ≡ Ok service.source_ports = field_read _ _ _ _ _ refl (list_read said.port port_data IsPort (port_read printed) service.source_ports is.source_ports) in
    let v4 : field (said.text_by (said.unless_empty said.network)) (codes "destination_v4") (service_data service) ≡ Ok service.v4 = field_read _ _ _ _ _ refl (destination_read printed service.v4 is.v4) in
    let v6 : field (said.text_by (said.unless_empty said.network)) (codes "destination_v6") (service_data service) ≡ Ok service.v6 = field_read _ _ _ _ _ refl (destination_read printed service.v6 is.v6) in
    rw (known, name, includes, ports, protocols, source_ports, v4, v6) refl

both : {A : Type 0} (P Q : A → Type 0) (items : List A) → Each P items → Each Q items → Each (λ item. P item × Q item) items
both P Q [] one other = tt
both P Q (item ∷ items) one other = ((one.0, other.0), both P Q items one.1 other.1)

zone_target_read : (target : ZoneTarget) → said.text_by (named said.zone_target_names) (string (zone_target_text target)) ≡ Ok target
zone_target_read zones.Default = refl
zone_target_read zones.Accept = refl
zone_target_read zones.Reject = refl
zone_target_read zones.Drop = refl

policy_target_read : (target : PolicyTarget) → said.text_by (named said.policy_target_names) (string (policy_target_text target)) ≡ Ok target
policy_target_read policies.Continue = refl
policy_target_read policies.Accept = refl
policy_target_read policies.Reject = refl
policy_target_read policies.Drop = refl

log_denied_read : (denied : LogDenied) → said.text_by (named said.log_denied_names) (string (log_denied_text denied)) ≡ Ok denied
unfolding said.log_denied_names
log_denied_read logs.Off = refl
log_denied_read logs.All = refl
log_denied_read logs.Unicast = refl
log_denied_read logs.Broadcast = refl
log_denied_read logs.Multicast = refl

zone_known : (zone : Zone) → known objects.zone_keys (zone_data zone) ≡ Ok tt
unfolding known objects.zone_keys
zone_known zone = refl

pub zone_read : Printed → (zone : Zone) → IsZoneInRange zone → Each IsRich zone.rules.rich → objects.zone (zone_data zone) ≡ Ok zone
unfolding objects.zone objects.notes objects.listed objects.translated
zone_read printed zone is written =
    let known = zone_known zone in
    let name : field said.text (codes "name") (zone_data zone) ≡ Ok zone.name = field_read _ _ _ _ _ refl refl in
    let version : field said.text (codes "version") (zone_data zone) ≡ Ok zone.notes.version = field_read _ _ _ _ _ refl refl in
    let short : field said.text (codes "short") (zone_data zone) ≡ Ok zone.notes.short = field_read _ _ _ _ _ refl refl in
    let description : field said.text (codes "description") (zone_data zone) ≡ Ok zone.notes.description = field_read _ _ _ _ _ refl refl in
    let target : field (said.text_by (named said.zone_target_names)) (codes "target") (zone_data zone) ≡ Ok zone.target = field_read _ _ _ _ _ refl (zone_target_read zone.target) in
    let services : field (list_in said.text) (codes "services") (zone_data zone) ≡ Ok zone.rules.services = field_read _ _ _ _ _ refl (names_read zone.rules.services) in
    let ports : field (list_in said.port) (codes "ports") (zone_data zone) ≡ Ok zone.rules.ports = field_read _ _ _ _ _ refl (list_read said.port port_data IsPort (port_read printed) zone.rules.ports is.rules.ports) in
    let protocols : field (list_in (said.text_by said.protocol)) (codes "protocols") (zone_data zone) ≡ Ok zone.rules.protocols = field_read _ _ _ _ _ refl (list_read (said.text_by said.protocol) (λ protocol. string (proto_text protocol)) (λ protocol. protocol < 2 ^ 8) (λ protocol fits. ap said.or_fault (printed.protocols protocol fits)) zone.rules.protocols is.rules.protocols) in
    let source_ports : field (list_in said.port) (codes "source_ports") (zone_data zone) ≡ Ok zone.rules.source_ports = field_read _ _ _ _ _ refl (list_read said.port port_data IsPort (port_read printed) zone.rules.source_ports is.rules.source_ports) in
    let icmp_blocks : field (list_in said.text) (codes "icmp_blocks") (zone_data zone) ≡ Ok zone.rules.icmp_blocks = field_read _ _ _ _ _ refl (names_read zone.rules.icmp_blocks) in
    let inversion : field said.truth (codes "icmp_block_inversion") (zone_data zone) ≡ Ok zone.inversion = field_read _ _ _ _ _ refl refl in
    let masquerade : field said.truth (codes "masquerade") (zone_data zone) ≡ Ok zone.rules.masquerade = field_read _ _ _ _ _ refl refl in
    let forwards : field (list_in said.forward) (codes "forward_ports") (zone_data zone) ≡ Ok zone.rules.forwards = field_read _ _ _ _ _ refl (list_read said.forward forward_data IsForward (forward_read printed) zone.rules.forwards is.rules.forwards) in
    let rich : field (list_in (said.text_by said.rich)) (codes "rules_str") (zone_data zone) ≡ Ok zone.rules.rich = field_read _ _ _ _ _ refl (list_read (said.text_by said.rich) (λ rule. string (canon rule)) (λ rule. HasValues rule × IsRich rule) (λ rule fits. ap said.or_fault (printed.rich rule fits.0 fits.1)) zone.rules.rich (both HasValues IsRich zone.rules.rich is.rules.rich written)) in
    let interfaces : field (list_in (said.text_by interface)) (codes "interfaces") (zone_data zone) ≡ Ok zone.interfaces = field_read _ _ _ _ _ refl (list_read (said.text_by interface) (λ name. string name) (λ name. IsTrue (is_interface name)) interface_read zone.interfaces is.interfaces) in
    let sources : field (list_in (said.text_by said.source)) (codes "sources") (zone_data zone) ≡ Ok zone.sources = field_read _ _ _ _ _ refl (list_read (said.text_by said.source) (λ source. string (source_text source)) IsBinding (λ source fits. ap said.or_fault (printed.sources source fits)) zone.sources is.sources) in
    let forward : field said.truth (codes "forward") (zone_data zone) ≡ Ok zone.forward = field_read _ _ _ _ _ refl refl in
    rw (known, name, version, short, description, target, services, ports, protocols, source_ports, icmp_blocks, inversion, masquerade, forwards, rich, interfaces, sources, forward) refl

policy_known : (policy : Policy) → known objects.policy_keys (policy_data policy) ≡ Ok tt
unfolding known objects.policy_keys
policy_known policy = refl

pub policy_read : Printed → (policy : Policy) → IsPolicyInRange policy → Each IsRich policy.rules.rich → objects.policy (policy_data policy) ≡ Ok policy
unfolding objects.policy objects.notes objects.listed objects.translated
policy_read printed policy is written =
    let known = policy_known policy in
    let name : field said.text (codes "name") (policy_data policy) ≡ Ok policy.name = field_read _ _ _ _ _ refl refl in
    let version : field said.text (codes "version") (policy_data policy) ≡ Ok policy.notes.version = field_read _ _ _ _ _ refl refl in
    let short : field said.text (codes "short") (policy_data policy) ≡ Ok policy.notes.short = field_read _ _ _ _ _ refl refl in
    let description : field said.text (codes "description") (policy_data policy) ≡ Ok policy.notes.description = field_read _ _ _ _ _ refl refl in
    let target : field (said.text_by (named said.policy_target_names)) (codes "target") (policy_data policy) ≡ Ok policy.target = field_read _ _ _ _ _ refl (policy_target_read policy.target) in
    let priority : field said.whole (codes "priority") (policy_data policy) ≡ Ok policy.priority = field_read _ _ _ _ _ refl (whole_read policy.priority is.priority) in
    let ingress : field (list_in said.text) (codes "ingress_zones") (policy_data policy) ≡ Ok policy.ingress = field_read _ _ _ _ _ refl (names_read policy.ingress) in
    let egress : field (list_in said.text) (codes "egress_zones") (policy_data policy) ≡ Ok policy.egress = field_read _ _ _ _ _ refl (names_read policy.egress) in
    let services : field (list_in said.text) (codes "services") (policy_data policy) ≡ Ok policy.rules.services = field_read _ _ _ _ _ refl (names_read policy.rules.services) in
    let ports : field (list_in said.port) (codes "ports") (policy_data policy) ≡ Ok policy.rules.ports = field_read _ _ _ _ _ refl (list_read said.port port_data IsPort (port_read printed) policy.rules.ports is.rules.ports) in
    let protocols : field (list_in (said.text_by said.protocol)) (codes "protocols") (policy_data policy) ≡ Ok policy.rules.protocols = field_read _ _ _ _ _ refl (list_read (said.text_by said.protocol) (λ protocol. string (proto_text protocol)) (λ protocol. protocol < 2 ^ 8) (λ protocol fits. ap said.or_fault (printed.protocols protocol fits)) policy.rules.protocols is.rules.protocols) in
    let source_ports : field (list_in said.port) (codes "source_ports") (policy_data policy) ≡ Ok policy.rules.source_ports = field_read _ _ _ _ _ refl (list_read said.port port_data IsPort (port_read printed) policy.rules.source_ports is.rules.source_ports) in
    let icmp_blocks : field (list_in said.text) (codes "icmp_blocks") (policy_data policy) ≡ Ok policy.rules.icmp_blocks = field_read _ _ _ _ _ refl (names_read policy.rules.icmp_blocks) in
    let masquerade : field said.truth (codes "masquerade") (policy_data policy) ≡ Ok policy.rules.masquerade = field_read _ _ _ _ _ refl refl in
    let forwards : field (list_in said.forward) (codes "forward_ports") (policy_data policy) ≡ Ok policy.rules.forwards = field_read _ _ _ _ _ refl (list_read said.forward forward_data IsForward (forward_read printed) policy.rules.forwards is.rules.forwards) in
    let rich : field (list_in (said.text_by said.rich)) (codes "rich_rules") (policy_data policy) ≡ Ok policy.rules.rich = field_read _ _ _ _ _ refl (list_read (said.text_by said.rich) (λ rule. string (canon rule)) (λ rule. HasValues rule × IsRich rule) (λ rule fits. ap said.or_fault (printed.rich rule fits.0 fits.1)) policy.rules.rich (both HasValues IsRich policy.rules.rich is.rules.rich written)) in
    rw (known, name, version, short, description, target, priority, ingress, egress, services, ports, protocols, source_ports, icmp_blocks, masquerade, forwards, rich) refl

config_known : (config : Config) → known objects.config_keys (config_data config) ≡ Ok tt
unfolding known objects.config_keys config_data
config_known config = refl

format_read : (config : Config) → field objects.first_format (codes "format") (config_data config) ≡ Ok (record {})
unfolding config_data field objects.first_format
format_read config = refl

left : {A : Type 0} (P : A → Type 0) (items others : List A) → Each P (items ++ others) → Each P items
left P [] others all = tt
left P (item ∷ items) others all = (all.0, left P items others all.1)

right : {A : Type 0} (P : A → Type 0) (items others : List A) → Each P (items ++ others) → Each P others
right P [] others all = all
right P (item ∷ items) others all = right P items others all.1

rich_written : {A : Type 0} (rules : A → Rules) (items : List A) → Each AreWritten (map rules items) → Each (λ item. Each IsRich (rules item).rich) items
rich_written rules [] all = tt
rich_written rules (item ∷ items) all = (all.0.rich_rules, rich_written rules items all.1)

-- the whole, under its keys
settings_read : Printed → (config : Config) → IsInRange config → Each (λ (zone : Zone). Each IsRich zone.rules.rich) config.zones
    → Each (λ (policy : Policy). Each IsRich policy.rules.rich) config.policies → objects.settings (config_data config) ≡ Ok config
unfolding objects.settings config_data
settings_read printed config is in_zones in_policies =
    let default_zone : field said.text (codes "default_zone") (config_data config) ≡ Ok config.default_zone = field_read _ _ _ _ _ refl refl in
    let log_denied : field (said.text_by (named said.log_denied_names)) (codes "log_denied") (config_data config) ≡ Ok config.log_denied = field_read _ _ _ _ _ refl (log_denied_read config.log_denied) in
    let zones : field (list_in objects.zone) (codes "zones") (config_data config) ≡ Ok config.zones = field_read _ _ _ _ _ refl (list_read objects.zone zone_data (λ (zone : Zone). IsZoneInRange zone × Each IsRich zone.rules.rich) (λ zone fits. zone_read printed zone fits.0 fits.1) config.zones (both IsZoneInRange (λ (zone : Zone). Each IsRich zone.rules.rich) config.zones is.zones in_zones)) in
    let policies : field (list_in objects.policy) (codes "policies") (config_data config) ≡ Ok config.policies = field_read _ _ _ _ _ refl (list_read objects.policy policy_data (λ (policy : Policy). IsPolicyInRange policy × Each IsRich policy.rules.rich) (λ policy fits. policy_read printed policy fits.0 fits.1) config.policies (both IsPolicyInRange (λ (policy : Policy). Each IsRich policy.rules.rich) config.policies is.policies in_policies)) in
    let services : field (list_in objects.service) (codes "services") (config_data config) ≡ Ok config.services = field_read _ _ _ _ _ refl (list_read objects.service service_data IsServiceInRange (service_read printed) config.services is.services) in
    let ipsets : field (list_in objects.ipset) (codes "ipsets") (config_data config) ≡ Ok config.ipsets = field_read _ _ _ _ _ refl (list_read objects.ipset ipset_data IsSetInRange (ipset_read printed) config.ipsets is.ipsets) in
    rw (default_zone, log_denied, zones, policies, services, ipsets) refl

there : (config : Config) → objects.an_object (config_data config) ≡ Ok tt
unfolding config_data
there config = refl

pub config_read : Printed → (config : Config) → IsInRange config → IsValid config → objects.config (config_data config) ≡ Ok config
unfolding objects.config
config_read printed config is valid =
    let of_zones = left AreWritten (map (λ (zone : Zone). zone.rules) config.zones) (map (λ (policy : Policy). policy.rules) config.policies) valid.written in
    let of_policies = right AreWritten (map (λ (zone : Zone). zone.rules) config.zones) (map (λ (policy : Policy). policy.rules) config.policies) valid.written in
    rw (there config, format_read config, config_known config)
    (settings_read printed config is (rich_written (λ (zone : Zone). zone.rules) config.zones of_zones) (rich_written (λ (policy : Policy). policy.rules) config.policies of_policies))
