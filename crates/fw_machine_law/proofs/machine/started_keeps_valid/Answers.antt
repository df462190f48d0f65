use Rattle.fw_machine_law.proofs.machine.started_keeps_valid.Goals as goal
use Rattle.fw_settings.specs.Starting.{started}

pub returns : goal.returns
returns c = λ config last entries valid zones policies told leaves.
    (c.history_keeps_valid.ensures (started config) last entries (c.first_settings_are_valid.ensures config valid) (record { zone = zones; policy = policies }) told leaves).0
