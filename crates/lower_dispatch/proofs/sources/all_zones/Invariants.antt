-- The zones so far.
use Rattle.std.proofs.Common.{◌≡◌, take}
use Rattle.fw_order.specs.Borrowed.{lent}
use Rattle.lower_dispatch.proofs.sources.all_zones.Given as goal

abbrev pub invariant-loop-zone : goal.invariant-loop-zone
invariant-loop-zone l = lent l.all.items ≡ take l.zone-index l.zones
