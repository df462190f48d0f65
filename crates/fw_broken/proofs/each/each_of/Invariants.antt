-- It is so of the settings so far.
use Rattle.std.proofs.Common.{take}
use Rattle.fw_valid.specs.Each.{Each}
use Rattle.fw_broken.proofs.each.each_of.Given as goal

abbrev pub invariant-loop-place : goal.invariant-loop-place
invariant-loop-place g l = Each (λ item. g.Q.Question.asked l.config (g.T.Ruled.rules_of item)) (take l.place l.items)
