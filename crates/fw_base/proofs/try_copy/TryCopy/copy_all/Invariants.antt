-- The copies so far are the front of the items.
use Rattle.std.proofs.Common.{◌≡◌, take}
use Rattle.fw_base.proofs.try_copy.TryCopy.copy_all.Given as goal

abbrev pub invariant-loop-item : goal.invariant-loop-item
invariant-loop-item g l = l.copied.items ≡ take l.item-index l.items
