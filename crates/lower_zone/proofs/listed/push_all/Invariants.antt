-- The alternatives so far were added.
use Rattle.std.proofs.Common.{◌≡◌, ◌++◌}
use Rattle.lower_zone.proofs.listed.push_all.Given as goal

abbrev pub invariant-loop-matches : goal.invariant-loop-matches
invariant-loop-matches l = l.all ≡ l.fn.all ++ l.yielded
