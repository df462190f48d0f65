-- The timers so far that go on.
use Rattle.std.proofs.Common.{◌≡◌, take}
use Rattle.std.specs.List.{filter}
use Rattle.fw_zone_settings.specs.Timers.{goes_on}
use Rattle.fw_zone_settings.proofs.timers.going_on.Given as goal

abbrev pub invariant-loop-timed : goal.invariant-loop-timed
invariant-loop-timed l = l.kept ≡ filter (goes_on l.zone) (take l.timed-index l.timers)
