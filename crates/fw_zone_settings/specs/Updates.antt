-- A zone in force with other settings (firewalld.dbus(5), `setZoneSettings2` and the signal `ZoneUpdated`).
use Rattle.std.specs.Prelude.{ℕ, List, [], ◌∷◌, Result, Ok, slice_set}
use Rattle.fw_act.specs.Acts.{Answered, ◌>>=◌, changed}
use Rattle.fw_calls.specs.declared.dict.Dict.{Dict}
use Rattle.fw_calls.specs.declared.reply.Refusal.{Refusal}
use Rattle.fw_calls.specs.declared.reply.Reply.TheVariants as reply
use Rattle.fw_calls.specs.declared.signal.Arg.TheVariants as arg
use Rattle.fw_calls.specs.declared.signal.Signal.{Signal}
use Rattle.fw_calls.specs.declared.signal_kind.SignalKind.TheVariants as signal
use Rattle.fw_dicts.specs.Zones.{others, zone_told}
use Rattle.fw_model.specs.declared.zone.Zone.{Zone}
use Rattle.fw_settings.specs.Parts.{with_timers, with_zones}
use Rattle.fw_settings.specs.declared.settings.Settings.{Settings}
use Rattle.fw_zone_members.specs.Reading.{look_up}
use Rattle.fw_zone_settings.specs.Timers.{going_on}
use Rattle.fw_zone_settings.specs.declared.update.Update.{Update}

-- what a dict makes of the zone that a call names, or the first refusal
unfoldable pub update_of : Settings → (zone : List ℕ) → Dict → Result Update Refusal
update_of settings zone dict = do
  found ← look_up settings.runtime.config zone
  told ← zone_told settings.runtime.config (others settings.runtime.config.zones found.place) found.zone dict
  Ok (record { place = found.place; zone = told; timers = going_on told settings.timers })

-- the settings in which it is in force
abbrev pub with_update : Settings → Update → Settings
with_update settings update =
    with_timers (with_zones settings (slice_set settings.runtime.config.zones update.place update.zone)) update.timers

-- the signal of it, with all settings of the zone
unfoldable pub updated_signal : Zone → Signal
updated_signal zone = record { kind = signal.ZoneUpdated; args = arg.Text zone.name ∷ arg.Zone zone ∷ [] }

-- `setZoneSettings2(zone, settings)`
unfoldable pub set_zone_settings_member : Settings → (zone : List ℕ) → Dict → Result (Answered Settings) Refusal
set_zone_settings_member settings zone dict = do
  update ← update_of settings zone dict
  Ok (changed (updated_signal update.zone) reply.None (with_update settings update))
