-- How much an entry of the journal weighs (this project's own): 64, the size of its event, and for each of its signals 32 and the size
-- of its arguments. A size is the number of bytes of all texts, and 8 for each number and for each element of a list; texts are as
-- they came in an event, and canonical in a signal.
use Rattle.std.specs.Prelude.{ℕ, ◌+◌, ◌-◌, ◌*◌, ◌^◌, min, List, length}
use Rattle.std.specs.List.{sum_by}
use Rattle.fw_calls.specs.declared.call.Call.{Call}
use Rattle.fw_calls.specs.declared.call.Call.TheVariants as call
use Rattle.fw_calls.specs.declared.call.ConfigCall.{ConfigCall}
use Rattle.fw_calls.specs.declared.call.ConfigCall.TheVariants as config
use Rattle.fw_calls.specs.declared.call.IpsetCall.{IpsetCall}
use Rattle.fw_calls.specs.declared.call.IpsetCall.TheVariants as ipset
use Rattle.fw_calls.specs.declared.call.ObjectCall.{ObjectCall}
use Rattle.fw_calls.specs.declared.call.ObjectCall.TheVariants as object
use Rattle.fw_calls.specs.declared.call.PolicyCall.{PolicyCall}
use Rattle.fw_calls.specs.declared.call.PolicyCall.TheVariants as policy
use Rattle.fw_calls.specs.declared.call.RootCall.{RootCall}
use Rattle.fw_calls.specs.declared.call.RootCall.TheVariants as root
use Rattle.fw_calls.specs.declared.call.SettingVerb.{SettingVerb}
use Rattle.fw_calls.specs.declared.call.SettingVerb.TheVariants as act
use Rattle.fw_calls.specs.declared.call.SettingWords.{SettingWords}
use Rattle.fw_calls.specs.declared.call.SettingWords.TheVariants as words
use Rattle.fw_calls.specs.declared.call.ZoneCall.{ZoneCall}
use Rattle.fw_calls.specs.declared.call.ZoneCall.TheVariants as zone
use Rattle.fw_calls.specs.declared.dict.Dict.{Dict}
use Rattle.fw_calls.specs.declared.dict.DictField.{DictField}
use Rattle.fw_calls.specs.declared.dict.DictField.TheVariants as field
use Rattle.fw_calls.specs.declared.event.Event.{Event}
use Rattle.fw_calls.specs.declared.event.Event.TheVariants as event
use Rattle.fw_calls.specs.declared.signal.Arg.{Arg}
use Rattle.fw_calls.specs.declared.signal.Arg.TheVariants as arg
use Rattle.fw_calls.specs.declared.signal.Signal.{Signal}
use Rattle.fw_model.specs.declared.notes.Notes.{Notes}
use Rattle.fw_model.specs.declared.policy.Policy.{Policy}
use Rattle.fw_model.specs.declared.rules.Rules.{Rules}
use Rattle.fw_model.specs.declared.zone.Zone.{Zone}

-- a sum, where it fits into 64 bits
abbrev pub capped : ℕ → ℕ
capped size = min size (2 ^ 64 - 1)

-- so many elements of a list
abbrev pub elements : ℕ → ℕ
elements count = 8 * count

abbrev pub bytes_of : List (List ℕ) → ℕ
bytes_of texts = sum_by length texts

-- a list of texts, each of which is an element
unfoldable pub texts_size : List (List ℕ) → ℕ
texts_size texts = elements (length texts) + bytes_of texts

-- a list of rows; a row is an element, and its texts are none
unfoldable pub rows_size : List (List (List ℕ)) → ℕ
rows_size rows = elements (length rows) + sum_by bytes_of rows

-- the value of a key of a dict; one that isn't known has no size
abbrev pub field_size : DictField → ℕ
field_size (field.Text text) = length text
field_size (field.Bool flag) = 0
field_size (field.Int number) = 8
field_size (field.Texts texts) = texts_size texts
field_size (field.Rows rows) = rows_size rows
field_size field.Unknown = 0

-- A dict: its keys are texts, and its fields are no elements.
abbrev pub entry_size : List ℕ × DictField → ℕ
entry_size entry = length entry.0 + field_size entry.1

unfoldable pub dict_size : Dict → ℕ
dict_size dict = sum_by entry_size dict.fields

-- calls
abbrev pub verb_size : SettingVerb → ℕ
verb_size (act.Add timeout) = 8
verb_size act.Remove = 0
verb_size act.Query = 0

abbrev pub words_size : SettingWords → ℕ
words_size (words.Service name) = length name
words_size (words.Port port protocol) = length port + length protocol
words_size (words.SourcePort port protocol) = length port + length protocol
words_size (words.Protocol protocol) = length protocol
words_size (words.IcmpBlock name) = length name
words_size words.Masquerade = 0
words_size (words.ForwardPort port protocol to_port to_address) =
    (length port + length protocol) + (length to_port + length to_address)
words_size (words.RichRule rule) = length rule

unfoldable pub zone_call_size : ZoneCall → ℕ
zone_call_size (zone.Setting act name setting) = (length name + words_size setting) + verb_size act
zone_call_size (zone.Inversion verb name) = length name
zone_call_size (zone.Binding verb name binding) = length name + length binding.text
zone_call_size (zone.ZoneOf binding) = length binding.text
zone_call_size zone.Zones = 0
zone_call_size zone.ActiveZones = 0
zone_call_size (zone.Settings name) = length name
zone_call_size (zone.SetSettings name settings) = length name + dict_size settings

unfoldable pub policy_call_size : PolicyCall → ℕ
policy_call_size policy.Policies = 0
policy_call_size policy.ActivePolicies = 0
policy_call_size (policy.Settings name) = length name
policy_call_size (policy.SetSettings name settings) = length name + dict_size settings

unfoldable pub ipset_call_size : IpsetCall → ℕ
ipset_call_size ipset.Ipsets = 0
ipset_call_size (ipset.HasIpset name) = length name
ipset_call_size (ipset.Entry verb name entry) = length name + length entry
ipset_call_size (ipset.Entries name) = length name
ipset_call_size (ipset.SetEntries name entries) = length name + texts_size entries

unfoldable pub root_call_size : RootCall → ℕ
root_call_size root.DefaultZone = 0
root_call_size (root.SetDefaultZone name) = length name
root_call_size root.LogDenied = 0
root_call_size (root.SetLogDenied value) = length value
root_call_size root.PanicMode = 0
root_call_size root.EnablePanicMode = 0
root_call_size root.DisablePanicMode = 0
root_call_size root.Services = 0
root_call_size root.Reload = 0
root_call_size root.CompleteReload = 0
root_call_size root.RuntimeToPermanent = 0

unfoldable pub config_call_size : ConfigCall → ℕ
config_call_size config.ZoneNames = 0
config_call_size config.PolicyNames = 0
config_call_size (config.ZoneByName name) = length name
config_call_size (config.PolicyByName name) = length name
config_call_size (config.AddZone name settings) = length name + dict_size settings
config_call_size (config.AddPolicy name settings) = length name + dict_size settings

-- the number of a config object, and its call
unfoldable pub object_call_size : ObjectCall → ℕ
object_call_size object.Settings = 8
object_call_size (object.Update settings) = 8 + dict_size settings
object_call_size object.Remove = 8

unfoldable pub call_size : Call → ℕ
call_size (call.Zone called) = zone_call_size called
call_size (call.Policy called) = policy_call_size called
call_size (call.Ipset called) = ipset_call_size called
call_size (call.Root called) = root_call_size called
call_size (call.Config called) = config_call_size called
call_size (call.ConfigZone number called) = object_call_size called
call_size (call.ConfigPolicy number called) = object_call_size called

-- an event; the numbers of sessions have no size
unfoldable pub event_size : Event → ℕ
event_size event.Open = 0
event_size (event.Call session call) = call_size call
event_size (event.Tick session now) = 8
event_size (event.Link session up name) = length name
event_size (event.Shut session) = 0

-- The settings of a zone or a policy in a signal: 256, the bytes of its notes, 64 for each element of each list, and 512 more for
-- each rich rule.
abbrev pub notes_size : Notes → ℕ
notes_size notes = (length notes.version + length notes.short) + length notes.description

abbrev pub elements_size : (count : ℕ) → ℕ
elements_size count = 64 * count

abbrev pub rules_size : Rules → ℕ
rules_size rules =
    ((elements_size (length rules.services) + elements_size (length rules.ports))
    + (elements_size (length rules.protocols) + elements_size (length rules.source_ports)))
    + ((elements_size (length rules.icmp_blocks) + elements_size (length rules.forwards))
    + (64 + 512) * length rules.rich)

unfoldable pub zone_size : Zone → ℕ
zone_size zone =
    (256 + notes_size zone.notes)
    + (rules_size zone.rules + (elements_size (length zone.interfaces) + elements_size (length zone.sources)))

unfoldable pub policy_size : Policy → ℕ
policy_size policy =
    (256 + notes_size policy.notes)
    + (rules_size policy.rules + (elements_size (length policy.ingress) + elements_size (length policy.egress)))

-- signals
abbrev pub arg_size : Arg → ℕ
arg_size (arg.Text text) = length text
arg_size (arg.Int number) = 8
arg_size (arg.Zone zone) = zone_size zone
arg_size (arg.Policy policy) = policy_size policy

unfoldable pub signal_size : Signal → ℕ
signal_size signal = 32 + sum_by arg_size signal.args

-- an entry with this event and these signals
abbrev pub weight : Event → List Signal → ℕ
weight event signals = capped ((64 + event_size event) + sum_by signal_size signals)
