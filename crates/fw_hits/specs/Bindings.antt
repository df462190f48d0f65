-- To which zone a packet belongs (firewalld.zones(5), "How to set or change a zone for a connection or interface";
-- firewalld.zone(5), `interface` and `source`): sources decide before interfaces, and where neither matches it is the
-- default zone.
use Rattle.std.specs.Prelude.{ℕ, List, [], ◌∷◌, length, map, Bool, Option, None, Some, if◌then◌else◌}
use Rattle.std.specs.List.{filter, find, flat_map, list_any}
use Rattle.std.specs.Option.{option_map, option_or}
use Rattle.std.specs.declared.cmp.Ordering.{Ordering}
use Rattle.std.specs.Ordering.{is_gt, nat_cmp, ordering_then}
use Rattle.std.specs.declared.cmp.Ordering.TheVariants.{Less, Equal, Greater}
use Rattle.std.specs.Cmp.Lexicographic.{slice_cmp}
use Rattle.std.specs.Str.{bytes_eq}
use Rattle.fw_addr.specs.Interfaces.{before_plus, matches}
use Rattle.fw_addr.specs.declared.addr.Addr.{Addr}
use Rattle.fw_model.specs.declared.config.Config.{Config}
use Rattle.fw_model.specs.declared.packet.Origin.{Origin}
use Rattle.fw_model.specs.declared.packet.Origin.TheVariants.{Host, Link}
use Rattle.fw_model.specs.declared.packet.Packet.{Packet}
use Rattle.fw_model.specs.declared.zone.Zone.{Zone}
use Rattle.fw_hits.specs.Sources.{matches_source}

-- an item, or the one that was found behind it where that comes strictly before it in the order
abbrev pub earlier : {A : Type 0} → (A → A → Ordering) → A → Option A → Option A
earlier order item None = Some item
earlier order item (Some other) = if is_gt (order item other) then Some other else Some item

-- the least item of a list in an order, of equals the first
abbrev pub first_by : {A : Type 0} → (A → A → Ordering) → List A → Option A
first_by order [] = None
first_by order (item ∷ items) = earlier order item (first_by order items)

-- zones by their names, in byte order
abbrev pub zone_order : Zone → Zone → Ordering
zone_order one other = slice_cmp nat_cmp one.name other.name

-- one of a zone's sources matches
abbrev pub has_source : Config → Addr → Option ℕ → Zone → Bool
has_source config address mac zone = list_any (matches_source config.ipsets address mac) zone.sources

-- The first zone by name with a source that matches. Sources go by zone name and then by text; as those of one zone all
-- give that zone, their texts never decide.
abbrev pub source_zone : Config → Addr → Option ℕ → Option Zone
source_zone config address mac = first_by zone_order (filter (has_source config address mac) config.zones)

-- an interface entry and the zone that lists it
pub record Entry : Type 0 where
  pub zone : Zone
  pub text : List ℕ

-- Of two interface entries that stand for one name an exact one, which has nothing before a `+`, comes before one with `+`,
-- and of two with `+` that with the longer prefix.
abbrev pub prefix_order : Option (List ℕ) → Option (List ℕ) → Ordering
prefix_order None None = Equal
prefix_order None (Some other) = Less
prefix_order (Some front) None = Greater
prefix_order (Some front) (Some other) = nat_cmp (length other) (length front)

-- Interface entries that stand for one name: by their prefixes, and then by zone name. (Two that are alike in their
-- prefixes are the same text.)
abbrev pub entry_order : Entry → Entry → Ordering
entry_order one other = ordering_then (prefix_order (before_plus one.text) (before_plus other.text)) (zone_order one.zone other.zone)

-- the interface entries of a zone that stand for a name
abbrev pub entries_for : List ℕ → Zone → List Entry
entries_for name zone = map (λ text. record { zone = zone; text = text }) (filter (λ text. matches text name) zone.interfaces)

-- the zone of the first interface entry that stands for a name
abbrev pub interface_zone : Config → List ℕ → Option Zone
interface_zone config name = option_map (λ entry. entry.zone) (first_by entry_order (flat_map (entries_for name) config.zones))

-- the zone that is the default by its name (firewalld.conf(5), `DefaultZone`)
abbrev pub default_zone : Config → Option Zone
default_zone config = find (λ zone. bytes_eq zone.name config.default_zone) config.zones

-- The zone of one who is reached by an interface: by the address or the hardware address, else by the interface, else the
-- default zone. There is none only where the default zone isn't there.
abbrev pub zone_of : Config → Addr → Option ℕ → List ℕ → Option Zone
zone_of config address mac name = option_or (source_zone config address mac) (option_or (interface_zone config name) (default_zone config))

-- the zone that a packet comes from; one of the host itself comes from none
abbrev pub ingress_from : Config → Packet → Origin → Option Zone
ingress_from config packet Host = None
ingress_from config packet (Link name) = zone_of config packet.src packet.mac name

abbrev pub ingress : Config → Packet → Option Zone
ingress config packet = ingress_from config packet packet.origin

-- The zone that a packet goes to by an interface. Nothing is known of the receiver's hardware address, so entries and sets of
-- such addresses never match here.
abbrev pub egress : Config → Packet → List ℕ → Option Zone
egress config packet name = zone_of config packet.dst None name
