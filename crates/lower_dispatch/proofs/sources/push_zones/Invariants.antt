-- The rules of the zones so far were added.
use Rattle.std.proofs.Common.{◌≡◌, ◌++◌, take}
use Rattle.std.specs.List.{flat_map}
use Rattle.fw_order.specs.Borrowed.{lent}
use Rattle.lower_dispatch.specs.Forms.{zone_rules}
use Rattle.lower_dispatch.proofs.sources.push_zones.Given as goal

abbrev pub invariant-loop-zone : goal.invariant-loop-zone
invariant-loop-zone l =
    l.rules ≡ l.fn.rules ++ flat_map (zone_rules l.direction l.ipsets l.start) (lent (take l.zone-index l.zones))
