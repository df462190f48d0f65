use Rattle.std.proofs.Common.{◌≡◌, take}
use Rattle.std.specs.List.{sum_by}
use Rattle.fw_calls.specs.Weight.{capped}
use Rattle.fw_calls.proofs.size.total.Given as goal

-- the sizes of the items that were looked at
abbrev pub invariant-loop-item : goal.invariant-loop-item
invariant-loop-item g l = l.total ≡ capped (sum_by g.T.Measure.size (take l.item-index l.items))
