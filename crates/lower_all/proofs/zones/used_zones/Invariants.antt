-- The zones in use of those so far.
use Rattle.std.proofs.Common.{◌≡◌, take}
use Rattle.std.specs.List.{filter}
use Rattle.fw_order.specs.Borrowed.{lent}
use Rattle.lower_dispatch.specs.Uses.{is_in_use}
use Rattle.lower_all.proofs.zones.used_zones.Given as goal

abbrev pub invariant-loop-zone : goal.invariant-loop-zone
invariant-loop-zone l = lent l.used.items ≡ filter (is_in_use l.config) (take l.zone-index l.config.zones)
