-- The alternatives so far stand within the limit.
use Rattle.std.proofs.Common.{◌≡◌, take}
use Rattle.lower_zone.specs.Forms.{limited}
use Rattle.lower_zone.proofs.rules.limited.Given as goal

abbrev pub invariant-loop-alternative : goal.invariant-loop-alternative
invariant-loop-alternative l = l.made ≡ limited l.limit (take l.alternative-index l.alternatives)
