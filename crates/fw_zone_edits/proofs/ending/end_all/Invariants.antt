-- The zones after the timers so far.
use Rattle.std.proofs.Common.{◌≡◌, take}
use Rattle.fw_zone_edits.specs.Endings.{all_ended}
use Rattle.fw_zone_edits.proofs.ending.end_all.Given as goal

abbrev pub invariant-loop-timed : goal.invariant-loop-timed
invariant-loop-timed l = l.zones ≡ all_ended l.fn.zones (take l.timed-index l.timers)
