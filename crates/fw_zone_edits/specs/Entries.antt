-- Interfaces and sources, and the zones that list them (firewalld.zone(5), `interface` and `source`; firewalld.dbus(5),
-- `addInterface`, `addSource` and their kin).
use Rattle.std.specs.Prelude.{ℕ, Bool, if◌then◌else◌, codes, List, [], ◌∷◌, ◌++◌, Option, None, Some, Result, Ok, Err, slice_set}
use Rattle.std.specs.List.{list_any}
use Rattle.std.specs.Str.{bytes_eq}
use Rattle.fw_addr.specs.Hardware.{mac_text}
use Rattle.fw_addr.specs.Nets.{net_text}
use Rattle.fw_model.specs.declared.binding.Binding.{Binding}
use Rattle.fw_model.specs.declared.binding.Binding.TheVariants as source
use Rattle.fw_model.specs.declared.code.Code.{Code}
use Rattle.fw_model.specs.declared.code.Code.TheVariants as code
use Rattle.fw_model.specs.declared.zone.Zone.{Zone}
use Rattle.fw_answer.specs.Equal.{same_source}
use Rattle.fw_answer.specs.Lists.{is_in, without}
use Rattle.fw_zone_edits.specs.Zones.{Found}
use Rattle.fw_zone_edits.specs.declared.entry.Entry.{Entry}
use Rattle.fw_zone_edits.specs.declared.entry.Entry.TheVariants as entry

-- a source's canonical text
abbrev pub source_text : Binding → List ℕ
source_text (source.Net net) = net_text net
source_text (source.Mac mac) = mac_text mac
source_text (source.Set name) = codes "ipset:" ++ name

abbrev pub entry_text : Entry → List ℕ
entry_text (entry.Interface name) = name
entry_text (entry.Source source) = source_text source

-- whether a zone lists an entry
abbrev pub lists : Entry → Zone → Bool
lists (entry.Interface name) zone = is_in bytes_eq name zone.interfaces
lists (entry.Source source) zone = is_in same_source source zone.sources

-- a zone with an entry more, the last of its list
abbrev pub with_entry : Zone → Entry → Zone
with_entry zone (entry.Interface name) = record zone { interfaces = zone.interfaces ++ name ∷ [] }
with_entry zone (entry.Source source) = record zone { sources = zone.sources ++ source ∷ [] }

-- a zone without an entry
abbrev pub without_entry : Zone → Entry → Zone
without_entry zone (entry.Interface name) = record zone { interfaces = without bytes_eq name zone.interfaces }
without_entry zone (entry.Source source) = record zone { sources = without same_source source zone.sources }

-- the code of an entry that no zone lists
abbrev pub unknown : Entry → Code
unknown (entry.Interface name) = code.UnknownInterface
unknown (entry.Source source) = code.UnknownSource

-- the zones after an entry was bound to one of them
unfoldable pub bound : List Zone → Found → Entry → Result (List Zone) Code
bound zones found entry =
    if lists entry found.zone then Err code.ZoneAlreadySet
    else (if list_any (lists entry) zones then Err code.ZoneConflict
    else Ok (slice_set zones found.place (with_entry found.zone entry)))

-- the zones after an entry was taken from one of them
unfoldable pub unbound : List Zone → Found → Entry → Result (List Zone) Code
unbound zones found entry =
    if lists entry found.zone then Ok (slice_set zones found.place (without_entry found.zone entry))
    else (if list_any (lists entry) zones then Err code.ZoneConflict else Err (unknown entry))

-- the zones after the first that passes a test was changed
abbrev pub first_changed : (test : Zone → Bool) → (change : Zone → Zone) → List Zone → List Zone
first_changed test change [] = []
first_changed test change (zone ∷ zones) = if test zone then change zone ∷ zones else zone ∷ first_changed test change zones

-- the zones after the first that lists an entry lost it
abbrev pub taken : List Zone → Entry → List Zone
taken zones entry = first_changed (lists entry) (λ zone. without_entry zone entry) zones

-- the zones after an entry was bound to one of them, whichever had it
unfoldable pub moved : List Zone → Found → Entry → List Zone
moved zones found entry =
    if lists entry found.zone then zones
    else slice_set (taken zones entry) found.place (with_entry found.zone entry)

-- the name of the first zone that lists an entry, or an empty text
abbrev pub holder : Option Zone → List ℕ
holder None = []
holder (Some zone) = zone.name
