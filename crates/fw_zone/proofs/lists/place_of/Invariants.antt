-- The item isn't among those before.
use Rattle.std.proofs.Common.{take}
use Rattle.fw_zone.specs.Lists.{IsIn}
use Rattle.fw_zone.proofs.lists.place_of.Given as goal

abbrev pub invariant-loop-place : goal.invariant-loop-place
invariant-loop-place g l = ¬ (IsIn l.item (take l.place l.items))
