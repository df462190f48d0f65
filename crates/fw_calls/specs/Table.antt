-- The members of firewalld's D-Bus interfaces (firewalld.dbus(5)): of each its name, what it does, the types of its arguments and
-- of its answer as a D-Bus signature, and its signals in the order in which they come. The list is this project's own; it is
-- modelled on the manual. A zone or a policy of the permanent settings is an object with a number, which is no argument.
use Rattle.std.specs.Prelude.{ℕ, codes, List, [], ◌∷◌, ◌++◌}
use Rattle.fw_calls.specs.Rows.{adds, asks, binds, member_row, removes, silent, telling}
use Rattle.fw_calls.specs.declared.interface.Interface.{Interface}
use Rattle.fw_calls.specs.declared.interface.Interface.TheVariants as interface
use Rattle.fw_calls.specs.declared.member.BindingKind.TheVariants as bound
use Rattle.fw_calls.specs.declared.member.BindingVerb.TheVariants as bind
use Rattle.fw_calls.specs.declared.member.ConfigMember.TheVariants as config
use Rattle.fw_calls.specs.declared.member.IpsetMember.TheVariants as ipset
use Rattle.fw_calls.specs.declared.member.Member.TheVariants.{Zone as zone_member, Policy as policy_member, Ipset as ipset_member, Root as root_member, Config as config_member, ConfigZone as config_zone_member, ConfigPolicy as config_policy_member}
use Rattle.fw_calls.specs.declared.member.ObjectMember.TheVariants as object
use Rattle.fw_calls.specs.declared.member.PolicyMember.TheVariants as policy
use Rattle.fw_calls.specs.declared.member.RootMember.TheVariants as root
use Rattle.fw_calls.specs.declared.member.SettingKind.TheVariants as kind
use Rattle.fw_calls.specs.declared.member.Verb.TheVariants as verb
use Rattle.fw_calls.specs.declared.member.ZoneMember.TheVariants as zone
use Rattle.fw_calls.specs.declared.signal_kind.SignalKind.TheVariants as signal
use Rattle.fw_calls.specs.declared.shape.Row.{Row}
use Rattle.fw_calls.specs.declared.shape.Signals.TheVariants as told

-- calls that add a setting to a zone; the last argument is its timeout
unfoldable pub adding_rows : List (List ℕ × Row)
adding_rows =
    (codes "addService", adds kind.Service (codes "ssi") signal.ZoneServiceAdded) ∷
    (codes "addPort", adds kind.Port (codes "sssi") signal.ZonePortAdded) ∷
    (codes "addSourcePort", adds kind.SourcePort (codes "sssi") signal.ZoneSourcePortAdded) ∷
    (codes "addProtocol", adds kind.Protocol (codes "ssi") signal.ZoneProtocolAdded) ∷
    (codes "addIcmpBlock", adds kind.IcmpBlock (codes "ssi") signal.ZoneIcmpBlockAdded) ∷
    (codes "addMasquerade", adds kind.Masquerade (codes "si") signal.ZoneMasqueradeAdded) ∷
    (codes "addForwardPort", adds kind.ForwardPort (codes "sssssi") signal.ZoneForwardPortAdded) ∷
    (codes "addRichRule", adds kind.RichRule (codes "ssi") signal.ZoneRichRuleAdded) ∷
    (codes "addIcmpBlockInversion", telling (zone_member (zone.Inversion verb.Add)) (codes "s") (codes "s") signal.ZoneIcmpBlockInversionAdded) ∷
    []

-- calls that remove a setting from a zone
unfoldable pub removing_rows : List (List ℕ × Row)
removing_rows =
    (codes "removeService", removes kind.Service (codes "ss") signal.ZoneServiceRemoved) ∷
    (codes "removePort", removes kind.Port (codes "sss") signal.ZonePortRemoved) ∷
    (codes "removeSourcePort", removes kind.SourcePort (codes "sss") signal.ZoneSourcePortRemoved) ∷
    (codes "removeProtocol", removes kind.Protocol (codes "ss") signal.ZoneProtocolRemoved) ∷
    (codes "removeIcmpBlock", removes kind.IcmpBlock (codes "ss") signal.ZoneIcmpBlockRemoved) ∷
    (codes "removeMasquerade", removes kind.Masquerade (codes "s") signal.ZoneMasqueradeRemoved) ∷
    (codes "removeForwardPort", removes kind.ForwardPort (codes "sssss") signal.ZoneForwardPortRemoved) ∷
    (codes "removeRichRule", removes kind.RichRule (codes "ss") signal.ZoneRichRuleRemoved) ∷
    (codes "removeIcmpBlockInversion", telling (zone_member (zone.Inversion verb.Remove)) (codes "s") (codes "s") signal.ZoneIcmpBlockInversionRemoved) ∷
    []

-- calls that ask whether a zone has a setting
unfoldable pub querying_rows : List (List ℕ × Row)
querying_rows =
    (codes "queryService", asks kind.Service (codes "ss")) ∷
    (codes "queryPort", asks kind.Port (codes "sss")) ∷
    (codes "querySourcePort", asks kind.SourcePort (codes "sss")) ∷
    (codes "queryProtocol", asks kind.Protocol (codes "ss")) ∷
    (codes "queryIcmpBlock", asks kind.IcmpBlock (codes "ss")) ∷
    (codes "queryMasquerade", asks kind.Masquerade (codes "s")) ∷
    (codes "queryForwardPort", asks kind.ForwardPort (codes "sssss")) ∷
    (codes "queryRichRule", asks kind.RichRule (codes "ss")) ∷
    (codes "queryIcmpBlockInversion", silent (zone_member (zone.Inversion verb.Query)) (codes "s") (codes "b")) ∷
    []

-- calls on the interfaces and sources of zones
unfoldable pub binding_rows : List (List ℕ × Row)
binding_rows =
    (codes "addInterface", binds bind.Add bound.Interface signal.ZoneInterfaceAdded) ∷
    (codes "removeInterface", binds bind.Remove bound.Interface signal.ZoneInterfaceRemoved) ∷
    (codes "queryInterface", silent (zone_member (zone.Binding bind.Query bound.Interface)) (codes "ss") (codes "b")) ∷
    (codes "changeZoneOfInterface", binds bind.Change bound.Interface signal.ZoneOfInterfaceChanged) ∷
    (codes "getZoneOfInterface", silent (zone_member (zone.ZoneOf bound.Interface)) (codes "s") (codes "s")) ∷
    (codes "addSource", binds bind.Add bound.Source signal.ZoneSourceAdded) ∷
    (codes "removeSource", binds bind.Remove bound.Source signal.ZoneSourceRemoved) ∷
    (codes "querySource", silent (zone_member (zone.Binding bind.Query bound.Source)) (codes "ss") (codes "b")) ∷
    (codes "changeZoneOfSource", binds bind.Change bound.Source signal.ZoneOfSourceChanged) ∷
    (codes "getZoneOfSource", silent (zone_member (zone.ZoneOf bound.Source)) (codes "s") (codes "s")) ∷
    []

-- calls on zones as wholes
unfoldable pub zone_rows : List (List ℕ × Row)
zone_rows =
    (codes "getZones", silent (zone_member zone.Zones) (codes "") (codes "as")) ∷
    (codes "getActiveZones", silent (zone_member zone.ActiveZones) (codes "") (codes "a{sa{sas}}")) ∷
    (codes "getZoneSettings2", silent (zone_member zone.Settings) (codes "s") (codes "a{sv}")) ∷
    (codes "setZoneSettings2", telling (zone_member zone.SetSettings) (codes "sa{sv}") (codes "") signal.ZoneUpdated) ∷
    []

-- policies at runtime
unfoldable pub policy_rows : List (List ℕ × Row)
policy_rows =
    (codes "getPolicies", silent (policy_member policy.Policies) (codes "") (codes "as")) ∷
    (codes "getActivePolicies", silent (policy_member policy.ActivePolicies) (codes "") (codes "a{sa{sas}}")) ∷
    (codes "getPolicySettings", silent (policy_member policy.Settings) (codes "s") (codes "a{sv}")) ∷
    (codes "setPolicySettings", telling (policy_member policy.SetSettings) (codes "sa{sv}") (codes "") signal.PolicyUpdated) ∷
    []

-- ipsets
unfoldable pub ipset_rows : List (List ℕ × Row)
ipset_rows =
    (codes "getIPSets", silent (ipset_member ipset.Ipsets) (codes "") (codes "as")) ∷
    (codes "queryIPSet", silent (ipset_member ipset.HasIpset) (codes "s") (codes "b")) ∷
    (codes "addEntry", telling (ipset_member (ipset.Entry verb.Add)) (codes "ss") (codes "") signal.IpsetEntryAdded) ∷
    (codes "removeEntry", telling (ipset_member (ipset.Entry verb.Remove)) (codes "ss") (codes "") signal.IpsetEntryRemoved) ∷
    (codes "queryEntry", silent (ipset_member (ipset.Entry verb.Query)) (codes "ss") (codes "b")) ∷
    (codes "getEntries", silent (ipset_member ipset.Entries) (codes "s") (codes "as")) ∷
    (codes "setEntries", member_row (ipset_member ipset.SetEntries) (codes "sas") (codes "") (told.Two signal.IpsetEntryRemoved signal.IpsetEntryAdded)) ∷
    []

-- the firewall as a whole
unfoldable pub root_rows : List (List ℕ × Row)
root_rows =
    (codes "getDefaultZone", silent (root_member root.DefaultZone) (codes "") (codes "s")) ∷
    (codes "setDefaultZone", telling (root_member root.SetDefaultZone) (codes "s") (codes "") signal.RootDefaultZoneChanged) ∷
    (codes "getLogDenied", silent (root_member root.LogDenied) (codes "") (codes "s")) ∷
    (codes "setLogDenied", member_row (root_member root.SetLogDenied) (codes "s") (codes "") (told.Two signal.RootLogDeniedChanged signal.RootReloaded)) ∷
    (codes "queryPanicMode", silent (root_member root.PanicMode) (codes "") (codes "b")) ∷
    (codes "enablePanicMode", telling (root_member root.EnablePanicMode) (codes "") (codes "") signal.RootPanicModeEnabled) ∷
    (codes "disablePanicMode", telling (root_member root.DisablePanicMode) (codes "") (codes "") signal.RootPanicModeDisabled) ∷
    (codes "listServices", silent (root_member root.Services) (codes "") (codes "as")) ∷
    (codes "reload", telling (root_member root.Reload) (codes "") (codes "") signal.RootReloaded) ∷
    (codes "completeReload", telling (root_member root.CompleteReload) (codes "") (codes "") signal.RootReloaded) ∷
    (codes "runtimeToPermanent", silent (root_member root.RuntimeToPermanent) (codes "") (codes "")) ∷
    []

-- the permanent settings
unfoldable pub config_rows : List (List ℕ × Row)
config_rows =
    (codes "getZoneNames", silent (config_member config.ZoneNames) (codes "") (codes "as")) ∷
    (codes "getPolicyNames", silent (config_member config.PolicyNames) (codes "") (codes "as")) ∷
    (codes "getZoneByName", silent (config_member config.ZoneByName) (codes "s") (codes "o")) ∷
    (codes "getPolicyByName", silent (config_member config.PolicyByName) (codes "s") (codes "o")) ∷
    (codes "addZone2", silent (config_member config.AddZone) (codes "sa{sv}") (codes "o")) ∷
    (codes "addPolicy", silent (config_member config.AddPolicy) (codes "sa{sv}") (codes "o")) ∷
    []

-- a zone of the permanent settings
unfoldable pub config_zone_rows : List (List ℕ × Row)
config_zone_rows =
    (codes "getSettings2", silent (config_zone_member object.Settings) (codes "") (codes "a{sv}")) ∷
    (codes "update2", silent (config_zone_member object.Update) (codes "a{sv}") (codes "")) ∷
    (codes "remove", silent (config_zone_member object.Remove) (codes "") (codes "")) ∷
    []

-- a policy of the permanent settings
unfoldable pub config_policy_rows : List (List ℕ × Row)
config_policy_rows =
    (codes "getSettings", silent (config_policy_member object.Settings) (codes "") (codes "a{sv}")) ∷
    (codes "update", silent (config_policy_member object.Update) (codes "a{sv}") (codes "")) ∷
    (codes "remove", silent (config_policy_member object.Remove) (codes "") (codes "")) ∷
    []

-- all members of an interface
unfoldable pub rows : Interface → List (List ℕ × Row)
rows interface.Zone = adding_rows ++ (removing_rows ++ (querying_rows ++ (binding_rows ++ zone_rows)))
rows interface.Policy = policy_rows
rows interface.Ipset = ipset_rows
rows interface.Root = root_rows
rows interface.Config = config_rows
rows interface.ConfigZone = config_zone_rows
rows interface.ConfigPolicy = config_policy_rows
