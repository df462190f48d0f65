-- Settings of the daemon of which a part is another.
use Rattle.std.specs.Prelude.{List}
use Rattle.fw_model.specs.declared.config.Config.{Config}
use Rattle.fw_model.specs.declared.ipset.IpSet.{IpSet}
use Rattle.fw_model.specs.declared.setting.Timed.{Timed}
use Rattle.fw_model.specs.declared.zone.Zone.{Zone}
use Rattle.fw_settings.specs.declared.settings.Settings.{Settings}

-- another configuration in force
abbrev pub with_config : Settings → Config → Settings
with_config settings config = record settings { runtime = record settings.runtime { config = config } }

-- other zones in force
abbrev pub with_zones : Settings → List Zone → Settings
with_zones settings zones = with_config settings (record settings.runtime.config { zones = zones })

-- other ipsets in force
abbrev pub with_ipsets : Settings → List IpSet → Settings
with_ipsets settings ipsets = with_config settings (record settings.runtime.config { ipsets = ipsets })

-- other timers
abbrev pub with_timers : Settings → List Timed → Settings
with_timers settings timers = record settings { timers = timers }
