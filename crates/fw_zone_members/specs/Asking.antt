-- Members that ask for zones (firewalld.dbus(5), `getZones`, `getActiveZones`, `getZoneSettings2`).
use Rattle.std.specs.Prelude.{ℕ, ◌==◌, Bool, not, ◌&&◌, List, length, map, Result, Ok}
use Rattle.std.specs.List.{filter}
use Rattle.fw_act.specs.Acts.{Answered, ◌>>=◌, replied}
use Rattle.fw_calls.specs.declared.reply.Active.{Active}
use Rattle.fw_calls.specs.declared.reply.Refusal.{Refusal}
use Rattle.fw_calls.specs.declared.reply.Reply.TheVariants as reply
use Rattle.fw_model.specs.declared.zone.Zone.{Zone}
use Rattle.fw_settings.specs.declared.settings.Settings.{Settings}
use Rattle.fw_zone_edits.specs.Entries.{source_text}
use Rattle.fw_zone_members.specs.Reading.{look_up}

-- `getZones()`: the names of the zones in force
abbrev pub zones_member : Settings → Answered Settings
zones_member settings = replied settings (reply.Texts (map (λ zone. zone.name) settings.runtime.config.zones))

-- a zone to which packets belong by bindings
abbrev pub is_active : Zone → Bool
is_active zone = not (length zone.interfaces == 0 && length zone.sources == 0)

-- its interfaces and its sources as texts
abbrev pub active : Zone → Active
active zone = record { name = zone.name; first = zone.interfaces; second = map source_text zone.sources }

-- `getActiveZones()`
abbrev pub active_zones_member : Settings → Answered Settings
active_zones_member settings = replied settings (reply.ActiveZones (map active (filter is_active settings.runtime.config.zones)))

-- `getZoneSettings2(zone)`
unfoldable pub zone_settings_member : Settings → (zone : List ℕ) → Result (Answered Settings) Refusal
zone_settings_member settings zone = do
  found ← look_up settings.runtime.config zone
  Ok (replied settings (reply.ZoneSettings found.zone))
