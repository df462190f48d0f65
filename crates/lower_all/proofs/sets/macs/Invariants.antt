-- The hardware addresses so far.
use Rattle.std.proofs.Common.{◌≡◌, take}
use Rattle.std.specs.List.{flat_map}
use Rattle.lower_all.specs.Joined.{mac_of}
use Rattle.lower_all.proofs.sets.macs.Given as goal

abbrev pub invariant-loop-item : goal.invariant-loop-item
invariant-loop-item l = l.macs ≡ flat_map mac_of (take l.item-index l.items)
