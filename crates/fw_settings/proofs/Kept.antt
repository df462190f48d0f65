-- Settings of which those in force and the timers stay.
use Rattle.fw_settings.specs.Settling.{kept_alone}
use Rattle.fw_settings.specs.Valid.{AreValid}
use Rattle.fw_settings.specs.declared.settings.Settings.{Settings}

pub kept_alone_is_valid : (settings next : Settings) → AreValid settings → AreValid next → AreValid (kept_alone settings next)
kept_alone_is_valid settings next valid valid_next = record {
  permanent = valid_next.permanent;
  runtime = valid.runtime;
  timers = valid.timers;
  now = valid_next.now;
  zones = valid_next.zones;
  policies = valid_next.policies;
}
