-- The names of signals and the interfaces that they are signals of (firewalld.dbus(5), "Signals").
use Rattle.std.specs.Prelude.{ℕ, codes, List}
use Rattle.fw_calls.specs.declared.interface.Interface.{Interface}
use Rattle.fw_calls.specs.declared.interface.Interface.TheVariants as interface
use Rattle.fw_calls.specs.declared.signal_kind.SignalKind.{SignalKind}
use Rattle.fw_calls.specs.declared.signal_kind.SignalKind.TheVariants as signal

abbrev pub signal_name : SignalKind → List ℕ
signal_name signal.ZoneServiceAdded = codes "ServiceAdded"
signal_name signal.ZoneServiceRemoved = codes "ServiceRemoved"
signal_name signal.ZonePortAdded = codes "PortAdded"
signal_name signal.ZonePortRemoved = codes "PortRemoved"
signal_name signal.ZoneSourcePortAdded = codes "SourcePortAdded"
signal_name signal.ZoneSourcePortRemoved = codes "SourcePortRemoved"
signal_name signal.ZoneProtocolAdded = codes "ProtocolAdded"
signal_name signal.ZoneProtocolRemoved = codes "ProtocolRemoved"
signal_name signal.ZoneIcmpBlockAdded = codes "IcmpBlockAdded"
signal_name signal.ZoneIcmpBlockRemoved = codes "IcmpBlockRemoved"
signal_name signal.ZoneMasqueradeAdded = codes "MasqueradeAdded"
signal_name signal.ZoneMasqueradeRemoved = codes "MasqueradeRemoved"
signal_name signal.ZoneForwardPortAdded = codes "ForwardPortAdded"
signal_name signal.ZoneForwardPortRemoved = codes "ForwardPortRemoved"
signal_name signal.ZoneRichRuleAdded = codes "RichRuleAdded"
signal_name signal.ZoneRichRuleRemoved = codes "RichRuleRemoved"
signal_name signal.ZoneIcmpBlockInversionAdded = codes "IcmpBlockInversionAdded"
signal_name signal.ZoneIcmpBlockInversionRemoved = codes "IcmpBlockInversionRemoved"
signal_name signal.ZoneInterfaceAdded = codes "InterfaceAdded"
signal_name signal.ZoneInterfaceRemoved = codes "InterfaceRemoved"
signal_name signal.ZoneOfInterfaceChanged = codes "ZoneOfInterfaceChanged"
signal_name signal.ZoneSourceAdded = codes "SourceAdded"
signal_name signal.ZoneSourceRemoved = codes "SourceRemoved"
signal_name signal.ZoneOfSourceChanged = codes "ZoneOfSourceChanged"
signal_name signal.ZoneUpdated = codes "ZoneUpdated"
signal_name signal.PolicyUpdated = codes "PolicyUpdated"
signal_name signal.IpsetEntryAdded = codes "EntryAdded"
signal_name signal.IpsetEntryRemoved = codes "EntryRemoved"
signal_name signal.RootDefaultZoneChanged = codes "DefaultZoneChanged"
signal_name signal.RootLogDeniedChanged = codes "LogDeniedChanged"
signal_name signal.RootPanicModeEnabled = codes "PanicModeEnabled"
signal_name signal.RootPanicModeDisabled = codes "PanicModeDisabled"
signal_name signal.RootReloaded = codes "Reloaded"

abbrev pub signal_interface : SignalKind → Interface
signal_interface signal.ZoneServiceAdded = interface.Zone
signal_interface signal.ZoneServiceRemoved = interface.Zone
signal_interface signal.ZonePortAdded = interface.Zone
signal_interface signal.ZonePortRemoved = interface.Zone
signal_interface signal.ZoneSourcePortAdded = interface.Zone
signal_interface signal.ZoneSourcePortRemoved = interface.Zone
signal_interface signal.ZoneProtocolAdded = interface.Zone
signal_interface signal.ZoneProtocolRemoved = interface.Zone
signal_interface signal.ZoneIcmpBlockAdded = interface.Zone
signal_interface signal.ZoneIcmpBlockRemoved = interface.Zone
signal_interface signal.ZoneMasqueradeAdded = interface.Zone
signal_interface signal.ZoneMasqueradeRemoved = interface.Zone
signal_interface signal.ZoneForwardPortAdded = interface.Zone
signal_interface signal.ZoneForwardPortRemoved = interface.Zone
signal_interface signal.ZoneRichRuleAdded = interface.Zone
signal_interface signal.ZoneRichRuleRemoved = interface.Zone
signal_interface signal.ZoneIcmpBlockInversionAdded = interface.Zone
signal_interface signal.ZoneIcmpBlockInversionRemoved = interface.Zone
signal_interface signal.ZoneInterfaceAdded = interface.Zone
signal_interface signal.ZoneInterfaceRemoved = interface.Zone
signal_interface signal.ZoneOfInterfaceChanged = interface.Zone
signal_interface signal.ZoneSourceAdded = interface.Zone
signal_interface signal.ZoneSourceRemoved = interface.Zone
signal_interface signal.ZoneOfSourceChanged = interface.Zone
signal_interface signal.ZoneUpdated = interface.Zone
signal_interface signal.PolicyUpdated = interface.Policy
signal_interface signal.IpsetEntryAdded = interface.Ipset
signal_interface signal.IpsetEntryRemoved = interface.Ipset
signal_interface signal.RootDefaultZoneChanged = interface.Root
signal_interface signal.RootLogDeniedChanged = interface.Root
signal_interface signal.RootPanicModeEnabled = interface.Root
signal_interface signal.RootPanicModeDisabled = interface.Root
signal_interface signal.RootReloaded = interface.Root
