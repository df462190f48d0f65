-- It is so of the items so far.
use Rattle.std.proofs.Common.{take}
use Rattle.fw_valid.specs.Each.{Each}
use Rattle.fw_broken.proofs.each.each.Given as goal

abbrev pub invariant-loop-place : goal.invariant-loop-place
invariant-loop-place g l = Each (g.Q.Question.asked l.config) (take l.place l.items)
