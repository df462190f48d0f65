-- The chains of the zones so far were added.
use Rattle.std.proofs.Common.{◌≡◌, ◌++◌, map, take}
use Rattle.fw_order.specs.Borrowed.{lent}
use Rattle.lower_changes.specs.Chains.{zone_chain}
use Rattle.lower_changes.proofs.hook.push_zones.Given as goal

abbrev pub invariant-loop-zone : goal.invariant-loop-zone
invariant-loop-zone l = l.chains ≡ l.initial.chains ++ map (zone_chain l.config l.side) (lent (take l.zone-index l.zones))
