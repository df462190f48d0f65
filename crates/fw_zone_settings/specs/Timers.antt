-- Which timers go on where a zone has other settings. That those of settings that stay do is this project's own.
use Rattle.std.specs.Prelude.{Bool, not, ◌||◌, List}
use Rattle.std.specs.List.{filter}
use Rattle.std.specs.Str.{bytes_eq}
use Rattle.fw_model.specs.declared.setting.Timed.{Timed}
use Rattle.fw_model.specs.declared.zone.Zone.{Zone}
use Rattle.fw_zone_edits.specs.Settings.{has}

-- a timer goes on that is of another zone, or of a setting that the zone still has
abbrev pub goes_on : Zone → Timed → Bool
goes_on zone timed = not (bytes_eq timed.zone zone.name) || has zone.rules timed.setting

-- the timers that go on where this is what became of their zone
unfoldable pub going_on : Zone → List Timed → List Timed
going_on zone timers = filter (goes_on zone) timers
