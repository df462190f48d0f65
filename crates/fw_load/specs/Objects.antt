-- What JSON objects say of the parts of the permanent settings, and of all of them, in the first format. Each object has exactly the keys
-- of its table. The first fault is a key that it lacks or has besides, the least in byte order, and then one in what stands under its
-- keys: first `name`, then the keys of settings dicts in the order of firewalld.dbus(5).
use Rattle.std.specs.Prelude.{ℕ, ◌==◌, List, [], ◌∷◌, Option, Some, None, option_and_then, option_map, Result, Ok, codes, if◌then◌else◌}
use Rattle.fw_addr.specs.Interfaces.{interface}
use Rattle.fw_load.specs.Fields.{◌>>=◌, field, known, list_in}
use Rattle.fw_load.specs.Values.{entry, family_names, forward, kind_names, log_denied_names, network, or_fault, policy_target_names, port, protocol, rich, source, text, text_by, truth, unless_empty, whole, zone_target_names}
use Rattle.fw_load.specs.declared.format.FirstFormat.{FirstFormat}
use Rattle.fw_load.specs.declared.parts.Listed.{Listed}
use Rattle.fw_load.specs.declared.parts.Translated.{Translated}
use Rattle.fw_model.specs.declared.config.Config.{Config}
use Rattle.fw_model.specs.declared.ipset.IpSet.{IpSet}
use Rattle.fw_model.specs.declared.notes.Notes.{Notes}
use Rattle.fw_model.specs.declared.policy.Policy.{Policy}
use Rattle.fw_model.specs.declared.rules.Rules.{Rules}
use Rattle.fw_model.specs.declared.service.Service.{Service}
use Rattle.fw_model.specs.declared.zone.Zone.{Zone}
use Rattle.fw_text.specs.Names.{named}
use Rattle.serde_json.specs.Data.{Data}
use Rattle.serde_json.specs.Find.{as_number, as_object, as_u64}

-- the keys of each object, in byte order

unfoldable pub ipset_keys : List (List ℕ)
ipset_keys = codes "entries" ∷ codes "family" ∷ codes "name" ∷ codes "timeout" ∷ codes "type" ∷ []

unfoldable pub service_keys : List (List ℕ)
service_keys =
    codes "destination_v4" ∷ codes "destination_v6" ∷ codes "includes" ∷ codes "name" ∷ codes "ports" ∷ codes "protocols"
    ∷ codes "source_ports" ∷ []

unfoldable pub zone_keys : List (List ℕ)
zone_keys =
    codes "description" ∷ codes "forward" ∷ codes "forward_ports" ∷ codes "icmp_block_inversion" ∷ codes "icmp_blocks"
    ∷ codes "interfaces" ∷ codes "masquerade" ∷ codes "name" ∷ codes "ports" ∷ codes "protocols" ∷ codes "rules_str"
    ∷ codes "services" ∷ codes "short" ∷ codes "source_ports" ∷ codes "sources" ∷ codes "target" ∷ codes "version" ∷ []

unfoldable pub policy_keys : List (List ℕ)
policy_keys =
    codes "description" ∷ codes "egress_zones" ∷ codes "forward_ports" ∷ codes "icmp_blocks" ∷ codes "ingress_zones"
    ∷ codes "masquerade" ∷ codes "name" ∷ codes "ports" ∷ codes "priority" ∷ codes "protocols" ∷ codes "rich_rules"
    ∷ codes "services" ∷ codes "short" ∷ codes "source_ports" ∷ codes "target" ∷ codes "version" ∷ []

unfoldable pub config_keys : List (List ℕ)
config_keys =
    codes "default_zone" ∷ codes "format" ∷ codes "ipsets" ∷ codes "log_denied" ∷ codes "policies" ∷ codes "services"
    ∷ codes "zones" ∷ []

-- what the objects say

unfoldable pub ipset : Data → Result IpSet (List ℕ)
ipset value = do
  keys ← known ipset_keys value
  name ← field text (codes "name") value
  kind ← field (text_by (named kind_names)) (codes "type") value
  family ← field (text_by (named family_names)) (codes "family") value
  timeout ← field truth (codes "timeout") value
  items ← field (list_in (text_by entry)) (codes "entries") value
  Ok (record { name = name; kind = kind; family = family; timeout = timeout; items = items })

unfoldable pub service : Data → Result Service (List ℕ)
service value = do
  keys ← known service_keys value
  name ← field text (codes "name") value
  includes ← field (list_in text) (codes "includes") value
  ports ← field (list_in port) (codes "ports") value
  protocols ← field (list_in (text_by protocol)) (codes "protocols") value
  source_ports ← field (list_in port) (codes "source_ports") value
  v4 ← field (text_by (unless_empty network)) (codes "destination_v4") value
  v6 ← field (text_by (unless_empty network)) (codes "destination_v6") value
  Ok (record {
    name = name;
    includes = includes;
    ports = ports;
    protocols = protocols;
    source_ports = source_ports;
    v4 = v4;
    v6 = v6;
  })

-- what an administrator notes
unfoldable pub notes : Data → Result Notes (List ℕ)
notes value = do
  version ← field text (codes "version") value
  short ← field text (codes "short") value
  description ← field text (codes "description") value
  Ok (record { version = version; short = short; description = description })

-- what zones and policies list alike, first
unfoldable pub listed : Data → Result Listed (List ℕ)
listed value = do
  services ← field (list_in text) (codes "services") value
  ports ← field (list_in port) (codes "ports") value
  protocols ← field (list_in (text_by protocol)) (codes "protocols") value
  source_ports ← field (list_in port) (codes "source_ports") value
  icmp_blocks ← field (list_in text) (codes "icmp_blocks") value
  Ok (record {
    services = services;
    ports = ports;
    protocols = protocols;
    source_ports = source_ports;
    icmp_blocks = icmp_blocks;
  })

-- and what follows, with rich rules under a key that differs
unfoldable pub translated : (rich_key : List ℕ) → Data → Result Translated (List ℕ)
translated rich_key value = do
  masquerade ← field truth (codes "masquerade") value
  forwards ← field (list_in forward) (codes "forward_ports") value
  rich ← field (list_in (text_by rich)) rich_key value
  Ok (record { masquerade = masquerade; forwards = forwards; rich = rich })

-- these two together
abbrev pub rules_of : Listed → Translated → Rules
rules_of listed translated = record {
  services = listed.services;
  ports = listed.ports;
  protocols = listed.protocols;
  source_ports = listed.source_ports;
  icmp_blocks = listed.icmp_blocks;
  masquerade = translated.masquerade;
  forwards = translated.forwards;
  rich = translated.rich;
}

unfoldable pub zone : Data → Result Zone (List ℕ)
zone value = do
  keys ← known zone_keys value
  name ← field text (codes "name") value
  notes ← notes value
  target ← field (text_by (named zone_target_names)) (codes "target") value
  listed ← listed value
  inversion ← field truth (codes "icmp_block_inversion") value
  translated ← translated (codes "rules_str") value
  interfaces ← field (list_in (text_by interface)) (codes "interfaces") value
  sources ← field (list_in (text_by source)) (codes "sources") value
  forward ← field truth (codes "forward") value
  Ok (record {
    name = name;
    notes = notes;
    target = target;
    rules = rules_of listed translated;
    inversion = inversion;
    forward = forward;
    interfaces = interfaces;
    sources = sources;
  })

unfoldable pub policy : Data → Result Policy (List ℕ)
policy value = do
  keys ← known policy_keys value
  name ← field text (codes "name") value
  notes ← notes value
  target ← field (text_by (named policy_target_names)) (codes "target") value
  priority ← field whole (codes "priority") value
  ingress ← field (list_in text) (codes "ingress_zones") value
  egress ← field (list_in text) (codes "egress_zones") value
  listed ← listed value
  translated ← translated (codes "rich_rules") value
  Ok (record {
    name = name;
    notes = notes;
    target = target;
    priority = priority;
    ingress = ingress;
    egress = egress;
    rules = rules_of listed translated;
  })

-- the number of the first format
abbrev pub first : ℕ → Option FirstFormat
first number = if number == 1 then Some (record {}) else None

unfoldable pub first_format : Data → Result FirstFormat (List ℕ)
first_format value = or_fault (option_and_then first (option_and_then as_u64 (as_number value)))

abbrev pub an_object : Data → Result (Unit {0}) (List ℕ)
an_object value = or_fault (option_map (λ members. tt) (as_object value))

-- what stands under the keys of a configuration
unfoldable pub settings : Data → Result Config (List ℕ)
settings value = do
  default_zone ← field text (codes "default_zone") value
  log_denied ← field (text_by (named log_denied_names)) (codes "log_denied") value
  zones ← field (list_in zone) (codes "zones") value
  policies ← field (list_in policy) (codes "policies") value
  services ← field (list_in service) (codes "services") value
  ipsets ← field (list_in ipset) (codes "ipsets") value
  Ok (record {
    default_zone = default_zone;
    log_denied = log_denied;
    zones = zones;
    policies = policies;
    services = services;
    ipsets = ipsets;
  })

-- all permanent settings: the format before all else, then the keys, and then what stands under them
unfoldable pub config : Data → Result Config (List ℕ)
config value = do
  there ← an_object value
  format ← field first_format (codes "format") value
  keys ← known config_keys value
  settings value
