-- The settings with which the daemon starts are valid.
use Rattle.std.proofs.Common.{length, arith}
use Rattle.fw_model.specs.declared.config.Config.{Config}
use Rattle.fw_settings.proofs.Counted.{first_are_numbers}
use Rattle.fw_settings.specs.Starting.{started}
use Rattle.fw_settings.specs.Valid.{AreValid}
use Rattle.fw_valid.specs.Valid.{IsValid}

pub started_is_valid : (config : Config) → IsValid config → AreValid (started config)
started_is_valid config valid = record {
  permanent = valid;
  runtime = valid;
  timers = record { held = tt; once = tt; in_time = tt };
  now = omega arith;
  zones = first_are_numbers (length config.zones);
  policies = first_are_numbers (length config.policies);
}
