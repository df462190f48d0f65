use Rattle.fw_machine_law.proofs.Called.{root_calls_valid}
use Rattle.fw_machine_law.proofs.calls.root_called_keeps_valid.Goals as goal

pub returns : goal.returns
returns c =
    root_calls_valid (record {
      set_default_zone = c.set_default_zone_keeps_valid.ensures;
      set_log_denied = c.set_log_denied_keeps_valid.ensures;
      enable_panic = c.enable_panic_keeps_valid.ensures;
      disable_panic = c.disable_panic_keeps_valid.ensures;
      reload = c.reload_keeps_valid.ensures;
      to_permanent = c.to_permanent_keeps_valid.ensures;
    })
