-- The sets so far.
use Rattle.std.proofs.Common.{◌≡◌, map, take}
use Rattle.lower_all.specs.Joined.{set_of}
use Rattle.lower_all.proofs.sets.listed.Given as goal

abbrev pub invariant-loop-set : goal.invariant-loop-set
invariant-loop-set l = l.sets.items ≡ map set_of (take l.set-index l.ipsets)
