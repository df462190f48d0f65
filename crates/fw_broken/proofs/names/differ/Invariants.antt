-- There are no repeats where there are none from here on.
use Rattle.std.proofs.Common.{drop, map}
use Rattle.fw_valid.specs.Each.{IsWithoutRepeats}
use Rattle.fw_broken.proofs.names.differ.Given as goal

abbrev pub invariant-loop-place : goal.invariant-loop-place
invariant-loop-place g l = IsWithoutRepeats (drop l.place (map g.T.Named.name_of l.items)) → IsWithoutRepeats (map g.T.Named.name_of l.items)
