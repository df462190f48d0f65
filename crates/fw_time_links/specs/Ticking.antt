-- The time is told (this project's own; the settings that end are firewalld.dbus(5)'s, the argument `timeout` of `addService` and its
-- kin). Time doesn't go back.
use Rattle.std.specs.Prelude.{ℕ, map, max}
use Rattle.fw_act.specs.Acts.{Answered}
use Rattle.fw_calls.specs.declared.applied.Applied.TheVariants as applied
use Rattle.fw_calls.specs.declared.reply.Reply.TheVariants as reply
use Rattle.fw_calls.specs.declared.signal.Signal.{Signal}
use Rattle.fw_model.specs.declared.setting.Timed.{Timed}
use Rattle.fw_settings.specs.Parts.{with_timers, with_zones}
use Rattle.fw_settings.specs.declared.settings.Settings.{Settings}
use Rattle.fw_timed.specs.Timers.{due, not_due}
use Rattle.fw_zone_edits.specs.Endings.{all_ended}
use Rattle.fw_zone_edits.specs.Signals.{removed_signal}

-- a setting that ended, as sessions are told of it
abbrev pub ended_signal : Timed → Signal
ended_signal timed = removed_signal timed.zone timed.setting

-- what is due by a time ends, each in its zone and with its signal
abbrev pub at_time : Settings → (now : ℕ) → Answered Settings
at_time settings now = record {
  signals = map ended_signal (due settings.timers now);
  reply = reply.Event applied.Skipped;
  after = record
      (with_timers (with_zones settings (all_ended settings.runtime.config.zones (due settings.timers now))) (not_due settings.timers now))
      { now = now };
}

unfoldable pub ticked : Settings → (told : ℕ) → Answered Settings
ticked settings told = at_time settings (max settings.now told)
