-- The JSON value (RFC 8259) that stands for a configuration, one definition an object. An object's members are listed in the
-- order of settings dicts in firewalld.dbus(5); as JSON they stand in byte order of their keys.
use Rattle.std.specs.Prelude.{ℕ, List, [], ◌∷◌, ◌++◌, map, codes}
use Rattle.fw_addr.specs.Ports.{ports_text}
use Rattle.fw_addr.specs.Protocols.{port_proto_text, proto_text}
use Rattle.fw_model.specs.declared.config.Config.{Config}
use Rattle.fw_model.specs.declared.forward.Forward.{Forward}
use Rattle.fw_model.specs.declared.ipset.IpSet.{IpSet}
use Rattle.fw_model.specs.declared.notes.Notes.{Notes}
use Rattle.fw_model.specs.declared.policy.Policy.{Policy}
use Rattle.fw_model.specs.declared.port.Port.{Port}
use Rattle.fw_model.specs.declared.rules.Rules.{Rules}
use Rattle.fw_model.specs.declared.service.Service.{Service}
use Rattle.fw_model.specs.declared.zone.Zone.{Zone}
use Rattle.fw_rich.specs.Canonical.{canon}
use Rattle.fw_store.specs.Texts.{destination_text, entry_text, kind_text, log_denied_text, policy_target_text, set_family_text, source_text, to_addr_text, to_port_text, zone_target_text}
use Rattle.serde_json.specs.Data.{Data, Members, array, boolean, no_members, number, object, put, string, unsigned}
use Rattle.serde_json.specs.Find.{of_integer}
use Rattle.serde_json.specs.View.{items_of}

-- Keys and their values.
abbrev pub Rows : Type 0
Rows = List (List ℕ × Data)

-- rows that are put into an object one after another
abbrev pub with_rows : Rows → Members → Members
with_rows [] members = members
with_rows (row ∷ rows) members = with_rows rows (put row.0 row.1 members)

abbrev pub object_of : Rows → Data
object_of rows = object (with_rows rows no_members)

-- an array with one value for each item
abbrev pub list_of : {T : Type 0} → (T → Data) → List T → Data
list_of one items = array (items_of (map one items))

abbrev pub texts_of : {T : Type 0} → (T → List ℕ) → List T → Data
texts_of text items = list_of (λ item. string (text item)) items

-- a range of ports and their protocol
abbrev pub port_data : Port → Data
port_data port = array (items_of (string (ports_text port.range) ∷ string (port_proto_text port.proto) ∷ []))

-- a port that is forwarded, and the port and the host that it goes to
abbrev pub forward_data : Forward → Data
forward_data forward = array (items_of (
    string (ports_text forward.port.range) ∷ string (port_proto_text forward.port.proto)
    ∷ string (to_port_text forward.to_port) ∷ string (to_addr_text forward.to_addr) ∷ []))

abbrev pub notes_rows : Notes → Rows
notes_rows notes =
    (codes "version", string notes.version)
    ∷ (codes "short", string notes.short)
    ∷ (codes "description", string notes.description) ∷ []

abbrev pub rules_rows : Rules → Rows
rules_rows rules =
    (codes "services", texts_of (λ name. name) rules.services)
    ∷ (codes "ports", list_of port_data rules.ports)
    ∷ (codes "protocols", texts_of proto_text rules.protocols)
    ∷ (codes "source_ports", list_of port_data rules.source_ports)
    ∷ (codes "icmp_blocks", texts_of (λ name. name) rules.icmp_blocks)
    ∷ (codes "masquerade", boolean rules.masquerade)
    ∷ (codes "forward_ports", list_of forward_data rules.forwards) ∷ []

abbrev pub zone_rows : Zone → Rows
zone_rows zone =
    notes_rows zone.notes ++ rules_rows zone.rules
    ++ (codes "name", string zone.name)
    ∷ (codes "target", string (zone_target_text zone.target))
    ∷ (codes "icmp_block_inversion", boolean zone.inversion)
    ∷ (codes "rules_str", texts_of canon zone.rules.rich)
    ∷ (codes "interfaces", texts_of (λ interface. interface) zone.interfaces)
    ∷ (codes "sources", texts_of source_text zone.sources)
    ∷ (codes "forward", boolean zone.forward) ∷ []

abbrev pub zone_data : Zone → Data
zone_data zone = object_of (zone_rows zone)

abbrev pub policy_rows : Policy → Rows
policy_rows policy =
    notes_rows policy.notes ++ rules_rows policy.rules
    ++ (codes "name", string policy.name)
    ∷ (codes "target", string (policy_target_text policy.target))
    ∷ (codes "priority", number (of_integer policy.priority))
    ∷ (codes "ingress_zones", texts_of (λ name. name) policy.ingress)
    ∷ (codes "egress_zones", texts_of (λ name. name) policy.egress)
    ∷ (codes "rich_rules", texts_of canon policy.rules.rich) ∷ []

abbrev pub policy_data : Policy → Data
policy_data policy = object_of (policy_rows policy)

abbrev pub service_rows : Service → Rows
service_rows service =
    (codes "name", string service.name)
    ∷ (codes "includes", texts_of (λ name. name) service.includes)
    ∷ (codes "ports", list_of port_data service.ports)
    ∷ (codes "protocols", texts_of proto_text service.protocols)
    ∷ (codes "source_ports", list_of port_data service.source_ports)
    ∷ (codes "destination_v4", string (destination_text service.v4))
    ∷ (codes "destination_v6", string (destination_text service.v6)) ∷ []

abbrev pub service_data : Service → Data
service_data service = object_of (service_rows service)

abbrev pub ipset_rows : IpSet → Rows
ipset_rows set =
    (codes "name", string set.name)
    ∷ (codes "type", string (kind_text set.kind))
    ∷ (codes "family", string (set_family_text set.family))
    ∷ (codes "timeout", boolean set.timeout)
    ∷ (codes "entries", texts_of entry_text set.items) ∷ []

abbrev pub ipset_data : IpSet → Data
ipset_data set = object_of (ipset_rows set)

-- the permanent settings, in the first format
abbrev pub config_rows : Config → Rows
config_rows config =
    (codes "format", number (unsigned 1))
    ∷ (codes "default_zone", string config.default_zone)
    ∷ (codes "log_denied", string (log_denied_text config.log_denied))
    ∷ (codes "zones", list_of zone_data config.zones)
    ∷ (codes "policies", list_of policy_data config.policies)
    ∷ (codes "services", list_of service_data config.services)
    ∷ (codes "ipsets", list_of ipset_data config.ipsets) ∷ []

unfoldable pub config_data : Config → Data
config_data config = object_of (config_rows config)
