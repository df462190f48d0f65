-- Zones and policies as dicts that hold every key, in the order of the keys, with canonical texts (firewalld.dbus(5),
-- `getZoneSettings2`, `getPolicySettings`).
use Rattle.std.specs.Prelude.{ℕ, codes, List, [], ◌∷◌, ◌++◌, map}
use Rattle.fw_addr.specs.Ports.{ports_text}
use Rattle.fw_addr.specs.Protocols.{port_proto_text, proto_text}
use Rattle.fw_calls.specs.declared.dict.Dict.{Dict}
use Rattle.fw_calls.specs.declared.dict.DictField.{DictField}
use Rattle.fw_calls.specs.declared.dict.DictField.TheVariants as value
use Rattle.fw_dicts.specs.Keys.{Fields}
use Rattle.fw_dicts.specs.Targets.{policy_target_text, zone_target_text}
use Rattle.fw_model.specs.declared.forward.Forward.{Forward}
use Rattle.fw_model.specs.declared.policy.Policy.{Policy}
use Rattle.fw_model.specs.declared.port.Port.{Port}
use Rattle.fw_model.specs.declared.zone.Zone.{Zone}
use Rattle.fw_rich.specs.Canonical.{canon}
use Rattle.fw_zone_edits.specs.Entries.{source_text}
use Rattle.fw_zone_edits.specs.Texts.{to_address_text, to_port_text}

-- a port and its protocol
abbrev pub port_row : Port → List (List ℕ)
port_row port = ports_text port.range ∷ port_proto_text port.proto ∷ []

-- the same of a forward port, and the port and the address to which packets go
abbrev pub forward_row : Forward → List (List ℕ)
forward_row forward = ports_text forward.port.range ∷ port_proto_text forward.port.proto ∷ to_port_text forward.to_port ∷ to_address_text forward.to_addr ∷ []

-- keys that come behind others, one after another
unfoldable pub with_field : Fields → (key : List ℕ) → DictField → Fields
with_field fields key value = fields ++ (key, value) ∷ []

abbrev pub with_fields : (fields rows : Fields) → Fields
with_fields fields [] = fields
with_fields fields (row ∷ rows) = with_fields (with_field fields row.0 row.1) rows

unfoldable pub zone_fields : Zone → Fields
zone_fields zone =
    (codes "version", value.Text zone.notes.version) ∷ (codes "short", value.Text zone.notes.short)
    ∷ (codes "description", value.Text zone.notes.description) ∷ (codes "target", value.Text (zone_target_text zone.target))
    ∷ (codes "services", value.Texts zone.rules.services) ∷ (codes "ports", value.Rows (map port_row zone.rules.ports))
    ∷ (codes "protocols", value.Texts (map proto_text zone.rules.protocols))
    ∷ (codes "source_ports", value.Rows (map port_row zone.rules.source_ports)) ∷ (codes "icmp_blocks", value.Texts zone.rules.icmp_blocks)
    ∷ (codes "icmp_block_inversion", value.Bool zone.inversion) ∷ (codes "masquerade", value.Bool zone.rules.masquerade)
    ∷ (codes "forward_ports", value.Rows (map forward_row zone.rules.forwards)) ∷ (codes "rules_str", value.Texts (map canon zone.rules.rich))
    ∷ (codes "interfaces", value.Texts zone.interfaces) ∷ (codes "sources", value.Texts (map source_text zone.sources))
    ∷ (codes "forward", value.Bool zone.forward) ∷ []

unfoldable pub policy_fields : Policy → Fields
policy_fields policy =
    (codes "version", value.Text policy.notes.version) ∷ (codes "short", value.Text policy.notes.short)
    ∷ (codes "description", value.Text policy.notes.description) ∷ (codes "target", value.Text (policy_target_text policy.target))
    ∷ (codes "priority", value.Int policy.priority) ∷ (codes "ingress_zones", value.Texts policy.ingress)
    ∷ (codes "egress_zones", value.Texts policy.egress) ∷ (codes "services", value.Texts policy.rules.services)
    ∷ (codes "ports", value.Rows (map port_row policy.rules.ports)) ∷ (codes "protocols", value.Texts (map proto_text policy.rules.protocols))
    ∷ (codes "source_ports", value.Rows (map port_row policy.rules.source_ports)) ∷ (codes "icmp_blocks", value.Texts policy.rules.icmp_blocks)
    ∷ (codes "masquerade", value.Bool policy.rules.masquerade) ∷ (codes "forward_ports", value.Rows (map forward_row policy.rules.forwards))
    ∷ (codes "rich_rules", value.Texts (map canon policy.rules.rich)) ∷ []

abbrev pub zone_dict : Zone → Dict
zone_dict zone = record { fields = zone_fields zone }

abbrev pub policy_dict : Policy → Dict
policy_dict policy = record { fields = policy_fields policy }
