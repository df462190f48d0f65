-- The members of firewalld's D-Bus interfaces that a script may call (firewalld.dbus(5)): the name of the interface as
-- scripts have it, a dot and the member's name. The list is this project's own.
use Rattle.std.specs.Prelude.{ℕ, codes, List, [], ◌∷◌, ◌++◌}
use Rattle.fw_call.specs.declared.member.BindingKind.TheVariants as bound
use Rattle.fw_call.specs.declared.member.Member.{Member}
use Rattle.fw_call.specs.declared.member.Member.TheVariants.{Setting, Inversion, Binding, ChangeZone, ZoneOf, Zones, ActiveZones, DefaultZone, Services, Ipsets, HasIpset, Entry, Entries, SetEntries}
use Rattle.fw_call.specs.declared.member.SettingKind.TheVariants as kind
use Rattle.fw_call.specs.declared.member.Verb.TheVariants.{Add, Remove, Query}

-- settings of zones
unfoldable pub setting_members : List (List ℕ × Member)
setting_members =
    (codes "zone.addPort", Setting Add kind.Port) ∷
    (codes "zone.removePort", Setting Remove kind.Port) ∷
    (codes "zone.queryPort", Setting Query kind.Port) ∷
    (codes "zone.addSourcePort", Setting Add kind.SourcePort) ∷
    (codes "zone.removeSourcePort", Setting Remove kind.SourcePort) ∷
    (codes "zone.querySourcePort", Setting Query kind.SourcePort) ∷
    (codes "zone.addProtocol", Setting Add kind.Protocol) ∷
    (codes "zone.removeProtocol", Setting Remove kind.Protocol) ∷
    (codes "zone.queryProtocol", Setting Query kind.Protocol) ∷
    (codes "zone.addIcmpBlock", Setting Add kind.IcmpBlock) ∷
    (codes "zone.removeIcmpBlock", Setting Remove kind.IcmpBlock) ∷
    (codes "zone.queryIcmpBlock", Setting Query kind.IcmpBlock) ∷
    (codes "zone.addService", Setting Add kind.Service) ∷
    (codes "zone.removeService", Setting Remove kind.Service) ∷
    (codes "zone.queryService", Setting Query kind.Service) ∷
    (codes "zone.addRichRule", Setting Add kind.RichRule) ∷
    (codes "zone.removeRichRule", Setting Remove kind.RichRule) ∷
    (codes "zone.queryRichRule", Setting Query kind.RichRule) ∷
    (codes "zone.addIcmpBlockInversion", Inversion Add) ∷
    (codes "zone.removeIcmpBlockInversion", Inversion Remove) ∷
    (codes "zone.queryIcmpBlockInversion", Inversion Query) ∷
    []

-- bindings of zones, and which zones there are
unfoldable pub binding_members : List (List ℕ × Member)
binding_members =
    (codes "zone.addInterface", Binding Add bound.Interface) ∷
    (codes "zone.removeInterface", Binding Remove bound.Interface) ∷
    (codes "zone.queryInterface", Binding Query bound.Interface) ∷
    (codes "zone.addSource", Binding Add bound.Source) ∷
    (codes "zone.removeSource", Binding Remove bound.Source) ∷
    (codes "zone.querySource", Binding Query bound.Source) ∷
    (codes "zone.changeZoneOfInterface", ChangeZone bound.Interface) ∷
    (codes "zone.changeZoneOfSource", ChangeZone bound.Source) ∷
    (codes "zone.getZoneOfInterface", ZoneOf bound.Interface) ∷
    (codes "zone.getZoneOfSource", ZoneOf bound.Source) ∷
    (codes "zone.getZones", Zones) ∷
    (codes "zone.getActiveZones", ActiveZones) ∷
    []

-- the firewall as a whole
unfoldable pub root_members : List (List ℕ × Member)
root_members =
    (codes "root.getDefaultZone", DefaultZone) ∷
    (codes "root.listServices", Services) ∷
    []

-- ipsets
unfoldable pub ipset_members : List (List ℕ × Member)
ipset_members =
    (codes "ipset.getIPSets", Ipsets) ∷
    (codes "ipset.queryIPSet", HasIpset) ∷
    (codes "ipset.addEntry", Entry Add) ∷
    (codes "ipset.removeEntry", Entry Remove) ∷
    (codes "ipset.queryEntry", Entry Query) ∷
    (codes "ipset.getEntries", Entries) ∷
    (codes "ipset.setEntries", SetEntries) ∷
    []

-- all members
abbrev pub members : List (List ℕ × Member)
members = setting_members ++ (binding_members ++ (root_members ++ ipset_members))
