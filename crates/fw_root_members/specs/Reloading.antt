-- A reload: the permanent settings come into force (firewalld.dbus(5), `reload`: "Runtime configuration will be lost"). What it leaves
-- is this project's own: panic mode stays, and so do the interfaces of zones that the permanent settings have and bind nowhere; timers
-- are lost.
use Rattle.std.specs.Prelude.{ℕ, Bool, not, List, [], ◌++◌, map, Option, None, Some}
use Rattle.std.specs.List.{filter, list_any}
use Rattle.fw_model.specs.declared.config.Config.{Config}
use Rattle.fw_model.specs.declared.zone.Zone.{Zone}
use Rattle.fw_settings.specs.Parts.{with_config, with_timers}
use Rattle.fw_settings.specs.declared.settings.Settings.{Settings}
use Rattle.fw_zone_edits.specs.Entries.{lists}
use Rattle.fw_zone_edits.specs.Zones.{Found, zone_named}
use Rattle.fw_zone_edits.specs.declared.entry.Entry.TheVariants as entry

-- the interfaces of a zone, if there is one
abbrev pub interfaces : Option Found → List (List ℕ)
interfaces None = []
interfaces (Some found) = found.zone.interfaces

abbrev pub interfaces_of : List Zone → (name : List ℕ) → List (List ℕ)
interfaces_of zones name = interfaces (zone_named zones name)

-- a zone lists a name
abbrev pub is_bound : List Zone → (name : List ℕ) → Bool
is_bound zones name = list_any (lists (entry.Interface name)) zones

-- the names that no zone lists
abbrev pub bound_nowhere : List Zone → (names : List (List ℕ)) → List (List ℕ)
bound_nowhere zones names = filter (λ name. not (is_bound zones name)) names

-- a permanent zone, and behind its interfaces those that stay, of the zone in force of its name
abbrev pub with_stayed : (permanent in_force : List Zone) → Zone → Zone
with_stayed permanent in_force zone =
    record zone { interfaces = zone.interfaces ++ bound_nowhere permanent (interfaces_of in_force zone.name) }

-- the configuration in force after a reload
abbrev pub reloaded_config : (permanent in_force : Config) → Config
reloaded_config permanent in_force = record permanent { zones = map (with_stayed permanent.zones in_force.zones) permanent.zones }

unfoldable pub reloaded : Settings → Settings
reloaded settings = with_timers (with_config settings (reloaded_config settings.permanent settings.runtime.config)) []
