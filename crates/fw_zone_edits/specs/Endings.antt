-- Settings of zones that end by themselves (firewalld.dbus(5), the argument `timeout` of `addService` and its kin).
use Rattle.std.specs.Prelude.{List, fold, Option, None, Some, slice_set}
use Rattle.fw_model.specs.declared.setting.Timed.{Timed}
use Rattle.fw_model.specs.declared.zone.Zone.{Zone}
use Rattle.fw_zone_edits.specs.Settings.{without_setting}
use Rattle.fw_zone_edits.specs.Zones.{Found, zone_named}

-- the zones after a setting of one of them ended
abbrev pub ended_in : List Zone → Timed → Option Found → List Zone
ended_in zones timed None = zones
ended_in zones timed (Some found) = slice_set zones found.place (record found.zone { rules = without_setting found.zone.rules timed.setting })

abbrev pub ended : List Zone → Timed → List Zone
ended zones timed = ended_in zones timed (zone_named zones timed.zone)

-- the zones after settings ended, one after another
abbrev pub all_ended : List Zone → List Timed → List Zone
all_ended zones timers = fold ended zones timers
