-- The zones so far.
use Rattle.std.proofs.Common.{◌≡◌, take, map}
use Rattle.fw_root_members.specs.Reloading.{with_stayed}
use Rattle.fw_root_members.proofs.reloading.reloaded_zones.Given as goal

abbrev pub invariant-loop-zone : goal.invariant-loop-zone
invariant-loop-zone l = l.zones ≡ map (with_stayed l.permanent l.in_force) (take l.zone-index l.permanent)
