-- Zones, settings, interfaces and sources as the arguments of calls name them (firewalld.dbus(5), interface
-- `org.fedoraproject.FirewallD1.zone`). The order of the refusals is this project's own.
use Rattle.std.specs.Prelude.{ℕ, ℤ, pos, int_lt, unsigned_abs, Bool, not, ◌||◌, if◌then◌else◌, codes, is_some, List, length, ◌==◌, Option, None, Some, Result, Ok}
use Rattle.std.specs.List.{list_any}
use Rattle.std.specs.Fmt.{signed_decimal}
use Rattle.std.specs.Str.{bytes_eq}
use Rattle.fw_act.specs.Acts.{◌>>=◌, found_or, refused, required}
use Rattle.fw_addr.specs.Addresses.{address}
use Rattle.fw_addr.specs.Hardware.{mac}
use Rattle.fw_addr.specs.Icmp.{icmp}
use Rattle.fw_addr.specs.Interfaces.{interface}
use Rattle.fw_addr.specs.Nets.{net}
use Rattle.fw_addr.specs.Ports.{Range, port, port_range}
use Rattle.fw_addr.specs.Protocols.{port_proto, proto}
use Rattle.fw_addr.specs.Subnets.{Subnet}
use Rattle.fw_addr.specs.WellFormed.{is_name}
use Rattle.fw_addr.specs.declared.addr.Addr.{Addr}
use Rattle.fw_addr.specs.declared.addr.Addr.TheVariants as addresses
use Rattle.fw_addr.specs.declared.proto.PortProto.{PortProto}
use Rattle.fw_calls.specs.declared.call.BindingWord.{BindingWord}
use Rattle.fw_calls.specs.declared.call.SettingWords.{SettingWords}
use Rattle.fw_calls.specs.declared.call.SettingWords.TheVariants as words
use Rattle.fw_calls.specs.declared.member.BindingKind.{BindingKind}
use Rattle.fw_calls.specs.declared.member.BindingKind.TheVariants as kind
use Rattle.fw_calls.specs.declared.reply.Refusal.{Refusal}
use Rattle.fw_model.specs.declared.binding.Binding.TheVariants as source
use Rattle.fw_model.specs.declared.code.Code.TheVariants as code
use Rattle.fw_model.specs.declared.config.Config.{Config}
use Rattle.fw_model.specs.declared.forward.Forward.{Forward}
use Rattle.fw_model.specs.declared.ipset.IpSet.{IpSet}
use Rattle.fw_model.specs.declared.port.Port.{Port}
use Rattle.fw_model.specs.declared.service.Service.{Service}
use Rattle.fw_model.specs.declared.setting.Setting.{Setting}
use Rattle.fw_model.specs.declared.setting.Setting.TheVariants as setting
use Rattle.fw_service.specs.Known.{is_known}
use Rattle.fw_words.specs.Keys.{after_key}
use Rattle.fw_zone_edits.specs.Zones.{Found, zone_meant}
use Rattle.fw_zone_edits.specs.declared.entry.Entry.{Entry}
use Rattle.fw_zone_edits.specs.declared.entry.Entry.TheVariants as entry
use Rattle.fw_zone_members.specs.RichRules.{rule_of}

-- the zone that a call names, or its refusal
unfoldable pub look_up : Config → (name : List ℕ) → Result Found Refusal
look_up config name = found_or code.InvalidZone name (zone_meant config name)

-- a timeout in seconds; none is below 0
unfoldable pub seconds_of : (timeout : ℤ) → Result ℕ Refusal
seconds_of timeout = if int_lt timeout (pos 0) then refused code.InvalidValue (signed_decimal timeout) else Ok (unsigned_abs timeout)

-- the port of a range that was spelled, by the text of its protocol
abbrev pub port_with : Range → (protocol : List ℕ) → Option PortProto → Result Port Refusal
port_with range protocol None = refused code.InvalidProtocol protocol
port_with range protocol (Some proto) = Ok (record { range = range; proto = proto })

abbrev pub port_from : (port protocol : List ℕ) → Option Range → Result Port Refusal
port_from port protocol None = refused code.InvalidPort port
port_from port protocol (Some range) = port_with range protocol (port_proto protocol)

-- the port that two arguments spell, or the first refusal
abbrev pub port_of : (port protocol : List ℕ) → Result Port Refusal
port_of port protocol = port_from port protocol (port_range port)

-- the one port to which packets go; an empty text is none
abbrev pub one_port : (text : List ℕ) → Option ℕ → Result (Option ℕ) Refusal
one_port text None = refused code.InvalidForward text
one_port text (Some number) = Ok (Some number)

abbrev pub to_port_of : (text : List ℕ) → Result (Option ℕ) Refusal
to_port_of text = if length text == 0 then Ok None else one_port text (port text)

-- the address of IPv4 to which packets go; an empty text is none
abbrev pub ipv4_alone : (text : List ℕ) → Option Addr → Result (Option Addr) Refusal
ipv4_alone text None = refused code.InvalidAddr text
ipv4_alone text (Some (addresses.V4 number)) = Ok (Some (addresses.V4 number))
ipv4_alone text (Some (addresses.V6 number)) = refused code.InvalidAddr text

abbrev pub to_address_of : (text : List ℕ) → Result (Option Addr) Refusal
to_address_of text = if length text == 0 then Ok None else ipv4_alone text (address text)

-- something is said of where packets go
abbrev pub is_said : (to_port to_address : List ℕ) → Bool
is_said to_port to_address = not (length to_port == 0) || not (length to_address == 0)

-- the forward port that four arguments spell, or the first refusal
unfoldable pub forward_of : (port protocol to_port to_address : List ℕ) → Result Forward Refusal
forward_of port protocol to_port to_address = do
  from ← port_of port protocol
  said ← required (is_said to_port to_address) code.InvalidForward to_port
  number ← to_port_of to_port
  host ← to_address_of to_address
  Ok (record { port = from; to_port = number; to_addr = host })

abbrev pub protocol_from : (protocol : List ℕ) → Option ℕ → Result Setting Refusal
protocol_from protocol None = refused code.InvalidProtocol protocol
protocol_from protocol (Some number) = Ok (setting.Protocol number)

-- a service of those that there are
abbrev pub service_of : List Service → (name : List ℕ) → Result Setting Refusal
service_of services name = if is_known services name then Ok (setting.Service name) else refused code.InvalidService name

-- an ICMP type by its name
abbrev pub icmp_of : (name : List ℕ) → Result Setting Refusal
icmp_of name = if is_some (icmp name) then Ok (setting.IcmpBlock name) else refused code.InvalidIcmptype name

-- the setting that a call's arguments spell, or the first refusal; a service is one of those in force, and so are those and the
-- ipsets of a rule
unfoldable pub setting_of : Config → SettingWords → Result Setting Refusal
setting_of config (words.Service name) = service_of config.services name
setting_of config (words.Port port protocol) = do
  port ← port_of port protocol
  Ok (setting.Port port)
setting_of config (words.SourcePort port protocol) = do
  port ← port_of port protocol
  Ok (setting.SourcePort port)
setting_of config (words.Protocol protocol) = protocol_from protocol (proto protocol)
setting_of config (words.IcmpBlock name) = icmp_of name
setting_of config words.Masquerade = Ok setting.Masquerade
setting_of config (words.ForwardPort port protocol to_port to_address) = do
  forward ← forward_of port protocol to_port to_address
  Ok (setting.Forward forward)
setting_of config (words.RichRule text) = do
  rule ← rule_of config text
  Ok (setting.Rich rule)

abbrev pub interface_from : (text : List ℕ) → Option (List ℕ) → Result Entry Refusal
interface_from text None = refused code.InvalidInterface text
interface_from text (Some name) = Ok (entry.Interface name)

-- the ipset of a name
abbrev pub set_source : List IpSet → (text name : List ℕ) → Result Entry Refusal
set_source ipsets text name =
    if is_name name
    then (if list_any (λ set. bytes_eq set.name name) ipsets then Ok (entry.Source (source.Set name)) else refused code.InvalidIpset text)
    else refused code.InvalidAddr text

-- a net, or a hardware address
abbrev pub address_source : (text : List ℕ) → Option Subnet → Option ℕ → Result Entry Refusal
address_source text (Some net) mac = Ok (entry.Source (source.Net net))
address_source text None (Some mac) = Ok (entry.Source (source.Mac mac))
address_source text None None = refused code.InvalidAddr text

abbrev pub source_from : List IpSet → (text : List ℕ) → (name : Option (List ℕ)) → Result Entry Refusal
source_from ipsets text (Some name) = set_source ipsets text name
source_from ipsets text None = address_source text (net text) (mac text)

abbrev pub entry_from : List IpSet → BindingKind → (text : List ℕ) → Result Entry Refusal
entry_from ipsets kind.Interface text = interface_from text (interface text)
entry_from ipsets kind.Source text = source_from ipsets text (after_key (codes "ipset:") text)

-- the interface or the source that an argument spells, or its refusal; an ipset is one of those in force
unfoldable pub entry_of : List IpSet → BindingWord → Result Entry Refusal
entry_of ipsets word = entry_from ipsets word.kind word.text
