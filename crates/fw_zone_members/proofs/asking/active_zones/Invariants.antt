-- The zones so far that have bindings.
use Rattle.std.proofs.Common.{◌≡◌, take, map}
use Rattle.std.specs.List.{filter}
use Rattle.fw_zone_members.specs.Asking.{active, is_active}
use Rattle.fw_zone_members.proofs.asking.active_zones.Given as goal

abbrev pub invariant-loop-zone : goal.invariant-loop-zone
invariant-loop-zone l = l.found ≡ map active (filter is_active (take l.zone-index l.zones))
