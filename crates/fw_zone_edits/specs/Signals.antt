-- The signals of settings, interfaces and sources that come to a zone and leave it, each with the zone's name (firewalld.dbus(5),
-- interface `org.fedoraproject.FirewallD1.zone`, "Signals").
use Rattle.std.specs.Prelude.{ℕ, ℤ, List, [], ◌∷◌, ◌++◌}
use Rattle.fw_calls.specs.declared.signal.Arg.TheVariants as arg
use Rattle.fw_calls.specs.declared.signal.Signal.{Signal}
use Rattle.fw_calls.specs.declared.signal_kind.SignalKind.{SignalKind}
use Rattle.fw_calls.specs.declared.signal_kind.SignalKind.TheVariants as signal
use Rattle.fw_model.specs.declared.setting.Setting.{Setting}
use Rattle.fw_model.specs.declared.setting.Setting.TheVariants as setting
use Rattle.fw_zone_edits.specs.Entries.{entry_text}
use Rattle.fw_zone_edits.specs.Texts.{setting_args}
use Rattle.fw_zone_edits.specs.declared.entry.Entry.{Entry}
use Rattle.fw_zone_edits.specs.declared.entry.Entry.TheVariants as entry

abbrev pub added_kind : Setting → SignalKind
added_kind (setting.Service name) = signal.ZoneServiceAdded
added_kind (setting.Port port) = signal.ZonePortAdded
added_kind (setting.Protocol protocol) = signal.ZoneProtocolAdded
added_kind (setting.SourcePort port) = signal.ZoneSourcePortAdded
added_kind (setting.IcmpBlock name) = signal.ZoneIcmpBlockAdded
added_kind setting.Masquerade = signal.ZoneMasqueradeAdded
added_kind (setting.Forward forward) = signal.ZoneForwardPortAdded
added_kind (setting.Rich rule) = signal.ZoneRichRuleAdded

abbrev pub removed_kind : Setting → SignalKind
removed_kind (setting.Service name) = signal.ZoneServiceRemoved
removed_kind (setting.Port port) = signal.ZonePortRemoved
removed_kind (setting.Protocol protocol) = signal.ZoneProtocolRemoved
removed_kind (setting.SourcePort port) = signal.ZoneSourcePortRemoved
removed_kind (setting.IcmpBlock name) = signal.ZoneIcmpBlockRemoved
removed_kind setting.Masquerade = signal.ZoneMasqueradeRemoved
removed_kind (setting.Forward forward) = signal.ZoneForwardPortRemoved
removed_kind (setting.Rich rule) = signal.ZoneRichRuleRemoved

-- a setting that came, with its timeout in seconds
unfoldable pub added_signal : (zone : List ℕ) → Setting → (timeout : ℤ) → Signal
added_signal zone setting timeout = record {
  kind = added_kind setting;
  args = arg.Text zone ∷ setting_args setting ++ arg.Int timeout ∷ [];
}

-- a setting that went
unfoldable pub removed_signal : (zone : List ℕ) → Setting → Signal
removed_signal zone setting = record { kind = removed_kind setting; args = arg.Text zone ∷ setting_args setting }

-- interfaces and sources
abbrev pub bound_kind : Entry → SignalKind
bound_kind (entry.Interface name) = signal.ZoneInterfaceAdded
bound_kind (entry.Source source) = signal.ZoneSourceAdded

abbrev pub unbound_kind : Entry → SignalKind
unbound_kind (entry.Interface name) = signal.ZoneInterfaceRemoved
unbound_kind (entry.Source source) = signal.ZoneSourceRemoved

abbrev pub moved_kind : Entry → SignalKind
moved_kind (entry.Interface name) = signal.ZoneOfInterfaceChanged
moved_kind (entry.Source source) = signal.ZoneOfSourceChanged

unfoldable pub entry_signal : SignalKind → (zone : List ℕ) → Entry → Signal
entry_signal kind zone entry = record { kind = kind; args = arg.Text zone ∷ arg.Text (entry_text entry) ∷ [] }
