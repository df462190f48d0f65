-- The zones to which packets belong by bindings (firewalld.dbus(5), `getActiveZones`).
use Rattle.std.specs.Prelude.{ℕ, ◌==◌, Bool, false, not, ◌&&◌, if◌then◌else◌, List, [], ◌∷◌, length, map, fold, Option, None, Some, slice_get}
use Rattle.std.specs.Cmp.Lexicographic.{slice_cmp}
use Rattle.std.specs.Ordering.{is_lt, nat_cmp}
use Rattle.fw_model.specs.declared.zone.Zone.{Zone}
use Rattle.fw_told.specs.declared.told.Active.{Active}
use Rattle.fw_zone_calls.specs.Entries.{source_text}

-- a zone that has bindings
abbrev pub is_active : Zone → Bool
is_active zone = not (length zone.interfaces == 0 && length zone.sources == 0)

-- its interfaces and sources as texts
abbrev pub active : Zone → Active
active zone = record { name = zone.name; interfaces = zone.interfaces; sources = map source_text zone.sources }

-- names by the order of their bytes
abbrev pub is_before : (one other : List ℕ) → Bool
is_before one other = is_lt (slice_cmp nat_cmp one other)

-- whether there is a zone at a place that comes behind a name
abbrev pub is_behind_name : Option Active → (name : List ℕ) → Bool
is_behind_name None name = false
is_behind_name (Some zone) name = is_before name zone.name

abbrev pub is_behind : List Active → (place : ℕ) → (name : List ℕ) → Bool
is_behind zones place name = is_behind_name (slice_get zones place) name

-- a zone at its place among zones in ascending order of their names
abbrev pub inserted : Active → List Active → List Active
inserted zone [] = zone ∷ []
inserted zone (first ∷ others) = if is_before zone.name first.name then zone ∷ first ∷ others else first ∷ inserted zone others

-- one zone after another, each to its place
abbrev pub put : List Active → Zone → List Active
put zones zone = if is_active zone then inserted (active zone) zones else zones

abbrev pub active_zones : List Zone → List Active
active_zones zones = fold put [] zones
