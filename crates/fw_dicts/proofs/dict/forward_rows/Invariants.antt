-- What was made of the forwards so far.
use Rattle.std.proofs.Common.{◌≡◌, map, take}
use Rattle.fw_dicts.specs.Dicts.{forward_row}
use Rattle.fw_dicts.proofs.dict.forward_rows.Given as goal

abbrev pub invariant-loop-forward : goal.invariant-loop-forward
invariant-loop-forward l = l.rows ≡ map forward_row (take l.forward-index l.forwards)
