-- The rules so far are kept.
use Rattle.std.proofs.Common.{take}
use Rattle.fw_broken.specs.Broken.{Holds}
use Rattle.fw_valid.specs.Each.{Each}
use Rattle.fw_broken.proofs.broken.first_broken.Given as goal

abbrev pub invariant-loop-place : goal.invariant-loop-place
invariant-loop-place l = Each (Holds l.config) (take l.place l.rules)
