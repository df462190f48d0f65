-- Calls on settings of a zone (firewalld.dbus(5), `addPort`, `removePort`, `queryPort` and their kin).
use Rattle.std.specs.Prelude.{ℕ, Bool, if◌then◌else◌, codes, List, [], ◌∷◌, ◌++◌, nat_eq, Option, None, Some, is_some, Result, Ok, Err}
use Rattle.std.specs.Str.{bytes_eq}
use Rattle.fw_addr.specs.Icmp.{icmp}
use Rattle.fw_addr.specs.Ports.{Range, port_range, ports_text}
use Rattle.fw_addr.specs.Protocols.{port_proto, port_proto_text, proto, proto_text}
use Rattle.fw_addr.specs.declared.proto.PortProto.{PortProto}
use Rattle.fw_call.specs.declared.call.SettingWords.{SettingWords}
use Rattle.fw_call.specs.declared.call.SettingWords.TheVariants as words
use Rattle.fw_call.specs.declared.member.Verb.{Verb}
use Rattle.fw_call.specs.declared.member.Verb.TheVariants as verb
use Rattle.fw_model.specs.declared.code.Code.{Code}
use Rattle.fw_model.specs.declared.code.Code.TheVariants as code
use Rattle.fw_model.specs.declared.ipset.IpSet.{IpSet}
use Rattle.fw_model.specs.declared.port.Port.{Port}
use Rattle.fw_model.specs.declared.rules.Rules.{Rules}
use Rattle.fw_model.specs.declared.service.Service.{Service}
use Rattle.fw_model.specs.declared.setting.Setting.{Setting}
use Rattle.fw_model.specs.declared.setting.Setting.TheVariants as setting
use Rattle.fw_model.specs.declared.zone.Zone.{Zone}
use Rattle.fw_rich.specs.Canonical.{canon}
use Rattle.fw_service.specs.Known.{is_known}
use Rattle.fw_told.specs.declared.told.Reply.TheVariants as reply
use Rattle.fw_told.specs.declared.told.Signal.{Signal}
use Rattle.fw_told.specs.declared.told.SignalKind.{SignalKind}
use Rattle.fw_told.specs.declared.told.SignalKind.TheVariants as signal
use Rattle.fw_told.specs.declared.told.Value.{Value}
use Rattle.fw_told.specs.declared.told.Value.TheVariants as value
use Rattle.fw_answer.specs.Equal.{same_port, same_rule}
use Rattle.fw_answer.specs.Lists.{is_in, without}
use Rattle.fw_answer.specs.Refusals.{Answered, ◌>>=◌, refused, refused_as, result_and_then}
use Rattle.fw_answer.specs.declared.refusal.Refusal.{Refusal}
use Rattle.fw_zone_calls.specs.RichRules.{rule_of}
use Rattle.fw_zone_calls.specs.declared.setting.PlainSetting.{PlainSetting}
use Rattle.fw_zone_calls.specs.declared.setting.PlainSetting.TheVariants as plain

-- the port of a range that was spelled, by the text of its protocol
abbrev pub port_with : Range → (protocol : List ℕ) → Option PortProto → Result Port Refusal
port_with range protocol None = refused code.InvalidProtocol protocol
port_with range protocol (Some proto) = Ok (record { range = range; proto = proto })

abbrev pub port_from : (port protocol : List ℕ) → Option Range → Result Port Refusal
port_from port protocol None = refused code.InvalidPort port
port_from port protocol (Some range) = port_with range protocol (port_proto protocol)

-- the port that two arguments spell, or the first refusal
abbrev pub port_of : (port protocol : List ℕ) → Result Port Refusal
port_of port protocol = port_from port protocol (port_range port)

abbrev pub protocol_from : (protocol : List ℕ) → Option ℕ → Result PlainSetting Refusal
protocol_from protocol None = refused code.InvalidProtocol protocol
protocol_from protocol (Some number) = Ok (plain.Protocol number)

-- the setting that a call's arguments spell, or the first refusal; a service is one of the configuration's, and so are those
-- and the ipsets of a rule
abbrev pub setting_of : List Service → List IpSet → SettingWords → Result PlainSetting Refusal
setting_of services ipsets (words.Port port protocol) = do
  port ← port_of port protocol
  Ok (plain.Port port)
setting_of services ipsets (words.SourcePort port protocol) = do
  port ← port_of port protocol
  Ok (plain.SourcePort port)
setting_of services ipsets (words.Protocol protocol) = protocol_from protocol (proto protocol)
setting_of services ipsets (words.IcmpBlock name) = if is_some (icmp name) then Ok (plain.IcmpBlock name) else refused code.InvalidIcmptype name
setting_of services ipsets (words.Service name) = if is_known services name then Ok (plain.Service name) else refused code.InvalidService name
setting_of services ipsets (words.RichRule text) = do
  rule ← rule_of services ipsets text
  Ok (plain.Rich rule)

-- the setting of a record of settings that is meant
abbrev pub whole : PlainSetting → Setting
whole (plain.Port port) = setting.Port port
whole (plain.SourcePort port) = setting.SourcePort port
whole (plain.Protocol protocol) = setting.Protocol protocol
whole (plain.IcmpBlock name) = setting.IcmpBlock name
whole (plain.Service name) = setting.Service name
whole (plain.Rich rule) = setting.Rich rule

-- whether a zone has a setting
abbrev pub has : Rules → PlainSetting → Bool
has rules (plain.Port port) = is_in same_port port rules.ports
has rules (plain.SourcePort port) = is_in same_port port rules.source_ports
has rules (plain.Protocol protocol) = is_in nat_eq protocol rules.protocols
has rules (plain.IcmpBlock name) = is_in bytes_eq name rules.icmp_blocks
has rules (plain.Service name) = is_in bytes_eq name rules.services
has rules (plain.Rich rule) = is_in same_rule rule rules.rich

-- the settings with one more, the last of its list
abbrev pub with_one : Rules → PlainSetting → Rules
with_one rules (plain.Port port) = record rules { ports = rules.ports ++ port ∷ [] }
with_one rules (plain.SourcePort port) = record rules { source_ports = rules.source_ports ++ port ∷ [] }
with_one rules (plain.Protocol protocol) = record rules { protocols = rules.protocols ++ protocol ∷ [] }
with_one rules (plain.IcmpBlock name) = record rules { icmp_blocks = rules.icmp_blocks ++ name ∷ [] }
with_one rules (plain.Service name) = record rules { services = rules.services ++ name ∷ [] }
with_one rules (plain.Rich rule) = record rules { rich = rules.rich ++ rule ∷ [] }

-- the settings without one
abbrev pub without_one : Rules → PlainSetting → Rules
without_one rules (plain.Port port) = record rules { ports = without same_port port rules.ports }
without_one rules (plain.SourcePort port) = record rules { source_ports = without same_port port rules.source_ports }
without_one rules (plain.Protocol protocol) = record rules { protocols = without nat_eq protocol rules.protocols }
without_one rules (plain.IcmpBlock name) = record rules { icmp_blocks = without bytes_eq name rules.icmp_blocks }
without_one rules (plain.Service name) = record rules { services = without bytes_eq name rules.services }
without_one rules (plain.Rich rule) = record rules { rich = without same_rule rule rules.rich }

abbrev pub added : Rules → PlainSetting → Result Rules Code
added rules setting = if has rules setting then Err code.AlreadyEnabled else Ok (with_one rules setting)

abbrev pub removed : Rules → PlainSetting → Result Rules Code
removed rules setting = if has rules setting then Ok (without_one rules setting) else Err code.NotEnabled

-- a port's canonical text, as `80/tcp`
abbrev pub port_text : Port → List ℕ
port_text port = ports_text port.range ++ 47 ∷ port_proto_text port.proto

-- a setting's canonical text
abbrev pub setting_text : PlainSetting → List ℕ
setting_text (plain.Port port) = port_text port
setting_text (plain.SourcePort port) = port_text port
setting_text (plain.Protocol protocol) = proto_text protocol
setting_text (plain.IcmpBlock name) = name
setting_text (plain.Service name) = name
setting_text (plain.Rich rule) = canon rule

-- a setting as the arguments of a signal
abbrev pub arguments : PlainSetting → List Value
arguments (plain.Port port) = value.Text (ports_text port.range) ∷ value.Text (port_proto_text port.proto) ∷ []
arguments (plain.SourcePort port) = value.Text (ports_text port.range) ∷ value.Text (port_proto_text port.proto) ∷ []
arguments (plain.Protocol protocol) = value.Text (proto_text protocol) ∷ []
arguments (plain.IcmpBlock name) = value.Text name ∷ []
arguments (plain.Service name) = value.Text name ∷ []
arguments (plain.Rich rule) = value.Text (canon rule) ∷ []

abbrev pub added_kind : PlainSetting → SignalKind
added_kind (plain.Port port) = signal.ZonePortAdded
added_kind (plain.SourcePort port) = signal.ZoneSourcePortAdded
added_kind (plain.Protocol protocol) = signal.ZoneProtocolAdded
added_kind (plain.IcmpBlock name) = signal.ZoneIcmpBlockAdded
added_kind (plain.Service name) = signal.ZoneServiceAdded
added_kind (plain.Rich rule) = signal.ZoneRichRuleAdded

abbrev pub removed_kind : PlainSetting → SignalKind
removed_kind (plain.Port port) = signal.ZonePortRemoved
removed_kind (plain.SourcePort port) = signal.ZoneSourcePortRemoved
removed_kind (plain.Protocol protocol) = signal.ZoneProtocolRemoved
removed_kind (plain.IcmpBlock name) = signal.ZoneIcmpBlockRemoved
removed_kind (plain.Service name) = signal.ZoneServiceRemoved
removed_kind (plain.Rich rule) = signal.ZoneRichRuleRemoved

-- the signals, with the zone's name; one that was added has no timeout
abbrev pub added_signal : (zone : List ℕ) → PlainSetting → Signal
added_signal zone setting = record {
  kind = added_kind setting;
  values = value.Text zone ∷ arguments setting ++ value.Number 0 ∷ [];
}

abbrev pub removed_signal : (zone : List ℕ) → PlainSetting → Signal
removed_signal zone setting = record { kind = removed_kind setting; values = value.Text zone ∷ arguments setting }

-- a call that adds, removes or asks for a setting
abbrev pub setting_answered : Zone → Verb → PlainSetting → Result (Answered Zone) Refusal
setting_answered zone verb.Add setting = do
  rules ← refused_as (setting_text setting) (added zone.rules setting)
  Ok (record {
    signals = added_signal zone.name setting ∷ [];
    reply = reply.Ok (value.Text zone.name ∷ []);
    after = record zone { rules = rules };
  })
setting_answered zone verb.Remove setting = do
  rules ← refused_as (setting_text setting) (removed zone.rules setting)
  Ok (record {
    signals = removed_signal zone.name setting ∷ [];
    reply = reply.Ok (value.Text zone.name ∷ []);
    after = record zone { rules = rules };
  })
setting_answered zone verb.Query setting =
    Ok (record { signals = []; reply = reply.Ok (value.Bool (has zone.rules setting) ∷ []); after = zone })

-- the same by its arguments
abbrev pub setting_call : List Service → List IpSet → Zone → Verb → SettingWords → Result (Answered Zone) Refusal
setting_call services ipsets zone verb words = do
  setting ← setting_of services ipsets words
  setting_answered zone verb setting
