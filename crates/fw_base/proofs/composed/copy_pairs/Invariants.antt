-- The copies so far are the front of the pairs.
use Rattle.std.proofs.Common.{◌≡◌, take}
use Rattle.fw_base.proofs.composed.copy_pairs.Given as goal

abbrev pub invariant-loop-pair : goal.invariant-loop-pair
invariant-loop-pair g l = l.copied.items ≡ take l.pair-index l.pairs
