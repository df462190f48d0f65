-- The configuration that there is from the start (firewalld.conf(5), `DefaultZone` and `LogDenied`): no policies and no
-- ipsets.
use Rattle.std.specs.Prelude.{[], codes}
use Rattle.fw_model.specs.declared.config.Config.{Config}
use Rattle.fw_model.specs.declared.config.LogDenied.TheVariants.{Off}
use Rattle.fw_service.specs.Services.{built_in_services}
use Rattle.fw_service.specs.Zones.{built_in_zones}

abbrev pub built_in_config : Config
built_in_config = record {
  default_zone = codes "public";
  log_denied = Off;
  zones = built_in_zones;
  policies = [];
  services = built_in_services;
  ipsets = [];
}
