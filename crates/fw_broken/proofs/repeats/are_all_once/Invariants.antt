-- No item of the sets so far is there twice.
use Rattle.std.proofs.Common.{take}
use Rattle.fw_model.specs.declared.ipset.IpSet.{IpSet}
use Rattle.fw_valid.specs.Each.{Each, IsWithoutRepeats}
use Rattle.fw_broken.proofs.repeats.are_all_once.Given as goal

abbrev pub invariant-loop-place : goal.invariant-loop-place
invariant-loop-place l = Each (λ (set : IpSet). IsWithoutRepeats set.items) (take l.place l.sets)
