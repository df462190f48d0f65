-- Links come and go (this project's own). Names are compared as texts: one with `+` at its end stands for itself alone.
use Rattle.std.specs.Prelude.{ℕ, Bool, ◌&&◌, if◌then◌else◌, List, Option, None, Some, find, position, slice_get, slice_set}
use Rattle.std.specs.List.{list_any}
use Rattle.std.specs.Str.{bytes_eq}
use Rattle.fw_act.specs.Acts.{Answered, changed, replied}
use Rattle.fw_calls.specs.declared.applied.Applied.TheVariants as applied
use Rattle.fw_calls.specs.declared.reply.Reply.{Reply}
use Rattle.fw_calls.specs.declared.reply.Reply.TheVariants as reply
use Rattle.fw_calls.specs.declared.signal_kind.SignalKind.TheVariants as signal
use Rattle.fw_model.specs.declared.zone.Zone.{Zone}
use Rattle.fw_settings.specs.Parts.{with_zones}
use Rattle.fw_settings.specs.declared.settings.Settings.{Settings}
use Rattle.fw_text.specs.Steps.{◌>>=◌}
use Rattle.fw_zone_edits.specs.Entries.{lists, with_entry, without_entry}
use Rattle.fw_zone_edits.specs.Signals.{entry_signal}
use Rattle.fw_zone_edits.specs.Zones.{Found, zone_named}
use Rattle.fw_zone_edits.specs.declared.entry.Entry.TheVariants as entry

-- the reply of an event, whose commit isn't tried yet
abbrev pub seen : Reply
seen = reply.Event applied.Skipped

-- a zone lists a name
abbrev pub has_name : (name : List ℕ) → Zone → Bool
has_name name zone = lists (entry.Interface name) zone

-- one of some zones lists it
abbrev pub some_has : (name : List ℕ) → List Zone → Bool
some_has name zones = list_any (has_name name) zones

-- a zone that is to have a name, among those in force
abbrev pub is_home : (in_force : List Zone) → (name : List ℕ) → Zone → Bool
is_home in_force name zone = has_name name zone && list_any (λ other. bytes_eq other.name zone.name) in_force

-- the zone in force that is to have a name, by the permanent settings
abbrev pub home : (in_force permanent : List Zone) → (name : List ℕ) → Option Found
home in_force permanent name = do
  zone ← find (is_home in_force name) permanent
  zone_named in_force zone.name

abbrev pub comes : Settings → (name : List ℕ) → Option Found → Answered Settings
comes settings name None = replied settings seen
comes settings name (Some found) =
    changed (entry_signal signal.ZoneInterfaceAdded found.zone.name (entry.Interface name)) seen
    (with_zones settings (slice_set settings.runtime.config.zones found.place (with_entry found.zone (entry.Interface name))))

-- A link came up: if no zone in force has it, it goes to its home.
unfoldable pub link_up : Settings → (name : List ℕ) → Answered Settings
link_up settings name =
    if some_has name settings.runtime.config.zones then replied settings seen else comes settings name (home settings.runtime.config.zones settings.permanent.zones name)

-- the zone in force that has a name
abbrev pub holder_of : List Zone → (name : List ℕ) → Option Found
holder_of zones name = do
  place ← position (has_name name) zones
  zone ← slice_get zones place
  Some (record { place = place; zone = zone })

abbrev pub goes : Settings → (name : List ℕ) → Option Found → Answered Settings
goes settings name None = replied settings seen
goes settings name (Some found) =
    changed (entry_signal signal.ZoneInterfaceRemoved found.zone.name (entry.Interface name)) seen
    (with_zones settings (slice_set settings.runtime.config.zones found.place (without_entry found.zone (entry.Interface name))))

-- A link went: if no permanent zone has it, it leaves its zone.
unfoldable pub link_gone : Settings → (name : List ℕ) → Answered Settings
link_gone settings name =
    if some_has name settings.permanent.zones then replied settings seen
    else goes settings name (holder_of settings.runtime.config.zones name)

abbrev pub linked : Settings → (up : Bool) → (name : List ℕ) → Answered Settings
linked settings up name = if up then link_up settings name else link_gone settings name
