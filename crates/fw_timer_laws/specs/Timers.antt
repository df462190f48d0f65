-- The timer of a setting that comes to a zone.
use Rattle.std.specs.Prelude.{◌≡◌, ◌≤◌}
use Rattle.fw_model.specs.declared.setting.Setting.{Setting}
use Rattle.fw_model.specs.declared.setting.Timed.{Timed}
use Rattle.fw_settings.specs.Valid.{last_deadline}
use Rattle.fw_zone_edits.specs.Zones.{Found}

-- a timer of a setting of a zone, which ends in time
pub record IsTimerOf (found : Found) (one : Setting) (timed : Timed) : Type 0 where
  pub zone : timed.zone ≡ found.zone.name
  pub setting : timed.setting ≡ one
  pub in_time : timed.deadline ≤ last_deadline
