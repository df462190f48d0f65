-- What each call on zones answers, and the configuration afterwards (firewalld.dbus(5), the interface
-- `org.fedoraproject.FirewallD1.zone` and `getDefaultZone`).
use Rattle.std.specs.Prelude.{ℕ, Bool, codes, List, [], ◌∷◌, map, Option, None, Some, find, Result, Ok, Err, slice_set}
use Rattle.fw_call.specs.declared.call.BindingWord.{BindingWord}
use Rattle.fw_call.specs.declared.call.ZoneCall.{ZoneCall}
use Rattle.fw_call.specs.declared.call.ZoneCall.TheVariants as call
use Rattle.fw_call.specs.declared.member.Verb.{Verb}
use Rattle.fw_call.specs.declared.member.Verb.TheVariants as verb
use Rattle.fw_model.specs.declared.code.Code.TheVariants as code
use Rattle.fw_model.specs.declared.config.Config.{Config}
use Rattle.fw_model.specs.declared.zone.Zone.{Zone}
use Rattle.fw_told.specs.declared.told.Reply.TheVariants as reply
use Rattle.fw_told.specs.declared.told.Signal.{Signal}
use Rattle.fw_told.specs.declared.told.SignalKind.{SignalKind}
use Rattle.fw_told.specs.declared.told.SignalKind.TheVariants as signal
use Rattle.fw_told.specs.declared.told.Value.{Value}
use Rattle.fw_told.specs.declared.told.Value.TheVariants as value
use Rattle.fw_zone_calls.specs.Active.{active_zones}
use Rattle.fw_zone_calls.specs.Entries.{bound, entry_of, entry_text, holder, lists, moved, unbound}
use Rattle.fw_zone_calls.specs.Inversion.{inversion_call}
use Rattle.fw_answer.specs.Refusals.{Answered, ◌>>=◌, refused, refused_as, replied, result_and_then, with_value}
use Rattle.fw_zone_calls.specs.Settings.{setting_call}
use Rattle.fw_zone_calls.specs.Zones.{Found, zone_meant}
use Rattle.fw_zone_calls.specs.declared.entry.Entry.{Entry}
use Rattle.fw_zone_calls.specs.declared.entry.Entry.TheVariants as entry
use Rattle.fw_answer.specs.declared.refusal.Refusal.{Refusal}

abbrev pub found_or_refused : (name : List ℕ) → Option Found → Result Found Refusal
found_or_refused name None = refused code.InvalidZone name
found_or_refused name (Some found) = Ok found

-- the zone that a call names, or its refusal
abbrev pub look_up : Config → (name : List ℕ) → Result Found Refusal
look_up config name = found_or_refused name (zone_meant config name)

-- a call on one zone
abbrev pub in_zone : Config → (name : List ℕ) → (Zone → Result (Answered Zone) Refusal) → Result (Answered Config) Refusal
in_zone config name act = do
  found ← look_up config name
  answered ← act found.zone
  Ok (record {
    signals = answered.signals;
    reply = answered.reply;
    after = record config { zones = slice_set config.zones found.place answered.after };
  })

-- signals of entries, with the zone's name
abbrev pub added_kind : Entry → SignalKind
added_kind (entry.Interface name) = signal.ZoneInterfaceAdded
added_kind (entry.Source source) = signal.ZoneSourceAdded

abbrev pub removed_kind : Entry → SignalKind
removed_kind (entry.Interface name) = signal.ZoneInterfaceRemoved
removed_kind (entry.Source source) = signal.ZoneSourceRemoved

abbrev pub moved_kind : Entry → SignalKind
moved_kind (entry.Interface name) = signal.ZoneOfInterfaceChanged
moved_kind (entry.Source source) = signal.ZoneOfSourceChanged

abbrev pub entry_signal : SignalKind → (zone : List ℕ) → Entry → Signal
entry_signal kind zone entry = record { kind = kind; values = value.Text zone ∷ value.Text (entry_text entry) ∷ [] }

-- one signal, the zone's name in reply, and other zones
abbrev pub with_zones : Config → (zone : List ℕ) → Signal → List Zone → Answered Config
with_zones config zone signal zones = record {
  signals = signal ∷ [];
  reply = reply.Ok (value.Text zone ∷ []);
  after = record config { zones = zones };
}

-- a call that binds, unbinds or asks for an entry
abbrev pub binding_answered : Config → Found → Verb → (subject : List ℕ) → Entry → Result (Answered Config) Refusal
binding_answered config found verb.Add subject entry = do
  zones ← refused_as subject (bound config.zones found entry)
  Ok (with_zones config found.zone.name (entry_signal (added_kind entry) found.zone.name entry) zones)
binding_answered config found verb.Remove subject entry = do
  zones ← refused_as subject (unbound config.zones found entry)
  Ok (with_zones config found.zone.name (entry_signal (removed_kind entry) found.zone.name entry) zones)
binding_answered config found verb.Query subject entry = Ok (with_value config (value.Bool (lists entry found.zone)))

abbrev pub binding_call : Config → Verb → (zone : List ℕ) → BindingWord → Result (Answered Config) Refusal
binding_call config verb zone word = do
  found ← look_up config zone
  entry ← entry_of config.ipsets word
  binding_answered config found verb word.text entry

-- a call that binds an entry to a zone, whichever had it; the signal comes also where the zone has it already
abbrev pub change_zone_call : Config → (zone : List ℕ) → BindingWord → Result (Answered Config) Refusal
change_zone_call config zone word = do
  found ← look_up config zone
  entry ← entry_of config.ipsets word
  Ok (with_zones config found.zone.name (entry_signal (moved_kind entry) found.zone.name entry) (moved config.zones found entry))

-- the zone that has an entry
abbrev pub zone_of_call : Config → BindingWord → Result (Answered Config) Refusal
zone_of_call config word = do
  entry ← entry_of config.ipsets word
  Ok (with_value config (value.Text (holder (find (lists entry) config.zones))))

unfoldable pub call_answered : Config → ZoneCall → Result (Answered Config) Refusal
call_answered config (call.Setting verb zone words) = in_zone config zone (λ found. setting_call config.services config.ipsets found verb words)
call_answered config (call.Inversion verb zone) = in_zone config zone (λ found. inversion_call found verb)
call_answered config (call.Binding verb zone word) = binding_call config verb zone word
call_answered config (call.ChangeZone zone word) = change_zone_call config zone word
call_answered config (call.ZoneOf word) = zone_of_call config word
call_answered config call.Zones = Ok (with_value config (value.Texts (map (λ zone. zone.name) config.zones)))
call_answered config call.ActiveZones = Ok (with_value config (value.ActiveZones (active_zones config.zones)))
call_answered config call.DefaultZone = Ok (with_value config (value.Text config.default_zone))
call_answered config call.Services = Ok (with_value config (value.Texts (map (λ service. service.name) config.services)))

-- what a call answers, and the configuration afterwards
abbrev pub answered : Config → ZoneCall → Answered Config
answered config call = replied config (call_answered config call)
