-- The nets so far.
use Rattle.std.proofs.Common.{◌≡◌, take}
use Rattle.std.specs.List.{flat_map}
use Rattle.lower_all.specs.Joined.{net_of}
use Rattle.lower_all.proofs.sets.nets.Given as goal

abbrev pub invariant-loop-item : goal.invariant-loop-item
invariant-loop-item l = l.nets ≡ flat_map net_of (take l.item-index l.items)
