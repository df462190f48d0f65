-- There are no repeats where there are none from here on.
use Rattle.std.proofs.Common.{drop}
use Rattle.fw_valid.specs.Each.{IsWithoutRepeats}
use Rattle.fw_broken.proofs.repeats.is_without_repeats.Given as goal

abbrev pub invariant-loop-place : goal.invariant-loop-place
invariant-loop-place g l = IsWithoutRepeats (drop l.place l.items) → IsWithoutRepeats l.items
