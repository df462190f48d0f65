-- The zones so far are put to their places.
use Rattle.std.proofs.Common.{◌≡◌, List, [], take, fold}
use Rattle.fw_zone_calls.specs.Active.{put}
use Rattle.fw_zone_calls.proofs.active.active_zones.Given as goal

abbrev pub invariant-loop-zone : goal.invariant-loop-zone
invariant-loop-zone l = l.active.items ≡ fold put [] (take l.zone-index l.zones)
