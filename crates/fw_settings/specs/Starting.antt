-- The settings with which the daemon starts: the runtime configuration is the permanent one (firewalld(1), "Runtime configuration").
-- The numbers of zones and policies are this project's own.
use Rattle.std.specs.Prelude.{false, [], length}
use Rattle.std.specs.List.{range_with_len}
use Rattle.fw_model.specs.declared.config.Config.{Config}
use Rattle.fw_settings.specs.declared.settings.Settings.{Settings}

abbrev pub started : Config → Settings
started config = record {
  permanent = config;
  runtime = record { panic = false; config = config };
  timers = [];
  now = 0;
  zone_ids = range_with_len 0 (length config.zones);
  policy_ids = range_with_len 0 (length config.policies);
  next_zone = length config.zones;
  next_policy = length config.policies;
}
