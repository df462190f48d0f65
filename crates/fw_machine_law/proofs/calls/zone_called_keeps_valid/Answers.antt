use Rattle.fw_machine_law.proofs.Called.{zone_calls_valid}
use Rattle.fw_machine_law.proofs.calls.zone_called_keeps_valid.Goals as goal

pub returns : goal.returns
returns c =
    zone_calls_valid (record {
      setting = c.setting_keeps_valid.ensures;
      inversion = c.inversion_keeps_valid.ensures;
      binding = c.binding_keeps_valid.ensures;
      zone_of = c.zone_of_keeps_valid.ensures;
      zone_settings = c.zone_settings_keeps_valid.ensures;
      set_settings = c.set_zone_settings_keeps_valid.ensures;
    })
