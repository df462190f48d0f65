-- What follows the word `call` and the client's number: a member and its arguments (firewalld.dbus(5); the spelling is
-- this project's own).
use Rattle.std.specs.Prelude.{ℕ, codes, List, [], ◌∷◌, Option, None, Some, if◌then◌else◌}
use Rattle.std.specs.Option.{option_map}
use Rattle.std.specs.Str.{bytes_eq}
use Rattle.fw_text.specs.Names.{named}
use Rattle.fw_text.specs.Steps.{◌>>=◌}
use Rattle.fw_call.specs.Members.{members}
use Rattle.fw_words.specs.Reading.{Read, at_end, next}
use Rattle.fw_call.specs.declared.call.BindingWord.{BindingWord}
use Rattle.fw_call.specs.Ipsets.{entries_call, entry_call, has_ipset_call, set_entries_request}
use Rattle.fw_call.specs.declared.call.Call.TheVariants as calls
use Rattle.fw_call.specs.declared.call.IpsetCall.{IpsetCall}
use Rattle.fw_call.specs.declared.call.IpsetCall.TheVariants as ipsets
use Rattle.fw_call.specs.declared.call.Request.{Request}
use Rattle.fw_call.specs.declared.call.Request.TheVariants as request
use Rattle.fw_call.specs.declared.call.ZoneCall.{ZoneCall}
use Rattle.fw_call.specs.declared.call.ZoneCall.TheVariants as call
use Rattle.fw_call.specs.declared.call.SettingWords.{SettingWords}
use Rattle.fw_call.specs.declared.call.SettingWords.TheVariants as setting
use Rattle.fw_call.specs.declared.member.BindingKind.{BindingKind}
use Rattle.fw_call.specs.declared.member.Member.{Member}
use Rattle.fw_call.specs.declared.member.Member.TheVariants as member
use Rattle.fw_call.specs.declared.member.SettingKind.{SettingKind}
use Rattle.fw_call.specs.declared.member.SettingKind.TheVariants as kind
use Rattle.fw_call.specs.declared.member.Verb.{Verb}
use Rattle.fw_call.specs.declared.member.Verb.TheVariants as verb

-- the words of a setting
abbrev pub setting_words : SettingKind → List (List ℕ) → Option (Read SettingWords)
setting_words kind.Port words = do
  port ← next words
  protocol ← next port.1
  Some (setting.Port port.0 protocol.0, protocol.1)
setting_words kind.SourcePort words = do
  port ← next words
  protocol ← next port.1
  Some (setting.SourcePort port.0 protocol.0, protocol.1)
setting_words kind.Protocol words = do
  protocol ← next words
  Some (setting.Protocol protocol.0, protocol.1)
setting_words kind.IcmpBlock words = do
  name ← next words
  Some (setting.IcmpBlock name.0, name.1)
setting_words kind.Service words = do
  name ← next words
  Some (setting.Service name.0, name.1)
setting_words kind.RichRule words = do
  rule ← next words
  Some (setting.RichRule rule.0, rule.1)

-- the timeout of a setting that is added: none, as the number 0
abbrev pub timeout : Verb → List (List ℕ) → Option (List (List ℕ))
timeout verb.Add [] = None
timeout verb.Add (word ∷ words) = if bytes_eq word (codes "0") then Some words else None
timeout verb.Remove words = Some words
timeout verb.Query words = Some words

abbrev pub setting_call : Verb → SettingKind → List (List ℕ) → Option ZoneCall
setting_call verb kind words = do
  zone ← next words
  setting ← setting_words kind zone.1
  rest ← timeout verb setting.1
  at_end (call.Setting verb zone.0 setting.0) rest

abbrev pub inversion_call : Verb → List (List ℕ) → Option ZoneCall
inversion_call verb words = do
  zone ← next words
  at_end (call.Inversion verb zone.0) zone.1

abbrev pub binding_call : Verb → BindingKind → List (List ℕ) → Option ZoneCall
binding_call verb kind words = do
  zone ← next words
  text ← next zone.1
  at_end (call.Binding verb zone.0 (record { kind = kind; text = text.0 })) text.1

abbrev pub change_zone_call : BindingKind → List (List ℕ) → Option ZoneCall
change_zone_call kind words = do
  zone ← next words
  text ← next zone.1
  at_end (call.ChangeZone zone.0 (record { kind = kind; text = text.0 })) text.1

abbrev pub zone_of_call : BindingKind → List (List ℕ) → Option ZoneCall
zone_of_call kind words = do
  text ← next words
  at_end (call.ZoneOf (record { kind = kind; text = text.0 })) text.1

abbrev pub zone_request : Option ZoneCall → Option Request
zone_request said = option_map (λ call. request.Call (calls.Zone call)) said

abbrev pub ipset_request : Option IpsetCall → Option Request
ipset_request said = option_map (λ call. request.Call (calls.Ipset call)) said

-- a member's arguments
unfoldable pub arguments : Member → List (List ℕ) → Option Request
arguments (member.Setting verb kind) words = zone_request (setting_call verb kind words)
arguments (member.Inversion verb) words = zone_request (inversion_call verb words)
arguments (member.Binding verb kind) words = zone_request (binding_call verb kind words)
arguments (member.ChangeZone kind) words = zone_request (change_zone_call kind words)
arguments (member.ZoneOf kind) words = zone_request (zone_of_call kind words)
arguments member.Zones words = zone_request (at_end call.Zones words)
arguments member.ActiveZones words = zone_request (at_end call.ActiveZones words)
arguments member.DefaultZone words = zone_request (at_end call.DefaultZone words)
arguments member.Services words = zone_request (at_end call.Services words)
arguments member.Ipsets words = ipset_request (at_end ipsets.Ipsets words)
arguments member.HasIpset words = ipset_request (has_ipset_call words)
arguments (member.Entry verb) words = ipset_request (entry_call verb words)
arguments member.Entries words = ipset_request (entries_call words)
arguments member.SetEntries words = set_entries_request words

-- a member by its name, and its arguments
unfoldable pub call_of : List (List ℕ) → Option Request
call_of words = do
  name ← next words
  member ← named members name.0
  arguments member name.1
