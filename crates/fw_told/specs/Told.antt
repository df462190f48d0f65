-- The lines that tell a client of signals and replies (firewalld.dbus(5), its signals and the error
-- `org.fedoraproject.FirewallD1.Exception`; `org.freedesktop.DBus.Error.InvalidArgs` is D-Bus's own error; the spelling of the
-- lines is this project's own).
use Rattle.std.specs.Prelude.{ℕ, codes, decimal, if◌then◌else◌, List, [], ◌∷◌, ◌++◌}
use Rattle.std.specs.List.{flat_map}
use Rattle.fw_model.specs.Codes.{code_name}
use Rattle.fw_model.specs.declared.code.Code.{Code}
use Rattle.fw_quote.specs.Quoted.{quoted}
use Rattle.fw_told.specs.Lists.{active_zones_text, texts_text}
use Rattle.fw_told.specs.declared.told.Reply.{Reply}
use Rattle.fw_told.specs.declared.told.Reply.TheVariants as reply
use Rattle.fw_told.specs.declared.told.Signal.{Signal}
use Rattle.fw_told.specs.declared.told.SignalKind.{SignalKind}
use Rattle.fw_told.specs.declared.told.SignalKind.TheVariants as signal
use Rattle.fw_told.specs.declared.told.Value.{Value}
use Rattle.fw_told.specs.declared.told.Value.TheVariants as value

-- a value behind a blank: a text in quotes, a number in decimal, whether something holds, a list or a dict
abbrev pub value_text : Value → List ℕ
value_text (value.Text text) = 32 ∷ quoted text
value_text (value.Number number) = 32 ∷ decimal number
value_text (value.Bool flag) = if flag then codes " true" else codes " false"
value_text (value.Texts texts) = 32 ∷ texts_text texts
value_text (value.ActiveZones zones) = 32 ∷ active_zones_text zones

abbrev pub values_text : List Value → List ℕ
values_text values = flat_map value_text values

-- the name of a signal: its interface's name in scripts, a dot and its own
abbrev pub signal_name : SignalKind → List ℕ
signal_name signal.ZonePortAdded = codes "zone.PortAdded"
signal_name signal.ZonePortRemoved = codes "zone.PortRemoved"
signal_name signal.ZoneSourcePortAdded = codes "zone.SourcePortAdded"
signal_name signal.ZoneSourcePortRemoved = codes "zone.SourcePortRemoved"
signal_name signal.ZoneProtocolAdded = codes "zone.ProtocolAdded"
signal_name signal.ZoneProtocolRemoved = codes "zone.ProtocolRemoved"
signal_name signal.ZoneIcmpBlockAdded = codes "zone.IcmpBlockAdded"
signal_name signal.ZoneIcmpBlockRemoved = codes "zone.IcmpBlockRemoved"
signal_name signal.ZoneServiceAdded = codes "zone.ServiceAdded"
signal_name signal.ZoneServiceRemoved = codes "zone.ServiceRemoved"
signal_name signal.ZoneRichRuleAdded = codes "zone.RichRuleAdded"
signal_name signal.ZoneRichRuleRemoved = codes "zone.RichRuleRemoved"
signal_name signal.ZoneIcmpBlockInversionAdded = codes "zone.IcmpBlockInversionAdded"
signal_name signal.ZoneIcmpBlockInversionRemoved = codes "zone.IcmpBlockInversionRemoved"
signal_name signal.ZoneInterfaceAdded = codes "zone.InterfaceAdded"
signal_name signal.ZoneInterfaceRemoved = codes "zone.InterfaceRemoved"
signal_name signal.ZoneSourceAdded = codes "zone.SourceAdded"
signal_name signal.ZoneSourceRemoved = codes "zone.SourceRemoved"
signal_name signal.ZoneOfInterfaceChanged = codes "zone.ZoneOfInterfaceChanged"
signal_name signal.ZoneOfSourceChanged = codes "zone.ZoneOfSourceChanged"
signal_name signal.IpsetEntryAdded = codes "ipset.EntryAdded"
signal_name signal.IpsetEntryRemoved = codes "ipset.EntryRemoved"

-- the line of a signal
unfoldable pub signal_line : (client : ℕ) → Signal → List ℕ
signal_line client told = codes "signal " ++ decimal client ++ codes " " ++ signal_name told.kind ++ values_text told.values ++ 10 ∷ []

-- a refusal's code, and what it refuses
abbrev pub reason_text : Code → (subject : List ℕ) → List ℕ
reason_text code subject = code_name code ++ codes ": " ++ subject

-- the daemon's error
unfoldable pub exception_text : (reason : List ℕ) → List ℕ
exception_text reason = codes "error org.fedoraproject.FirewallD1.Exception " ++ quoted reason

-- D-Bus's error of arguments that aren't of the member's types
unfoldable pub invalid_args_text : (signature : List ℕ) → List ℕ
invalid_args_text signature = codes "error org.freedesktop.DBus.Error.InvalidArgs " ++ quoted signature

abbrev pub reply_text : Reply → List ℕ
reply_text (reply.Ok values) = codes "ok" ++ values_text values
reply_text (reply.Refused code subject) = exception_text (reason_text code subject)
reply_text (reply.InvalidArgs signature) = invalid_args_text signature

-- the line of a reply
unfoldable pub reply_line : (client : ℕ) → Reply → List ℕ
reply_line client told = codes "reply " ++ decimal client ++ codes " " ++ reply_text told ++ 10 ∷ []
