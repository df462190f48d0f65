-- The items so far are the same.
use Rattle.std.proofs.Common.{◌≡◌, take}
use Rattle.fw_same.proofs.lists.same_objects.Given as goal

abbrev pub invariant-loop-place : goal.invariant-loop-place
invariant-loop-place g l = take l.place l.one ≡ take l.place l.other
