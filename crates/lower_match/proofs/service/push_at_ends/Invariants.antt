-- An alternative for each place so far is added.
use Rattle.std.proofs.Common.{◌≡◌, ◌++◌, map, take}
use Rattle.lower_match.specs.Forms.{at_end}
use Rattle.lower_match.proofs.service.push_at_ends.Given as goal

abbrev pub invariant-loop-end : goal.invariant-loop-end
invariant-loop-end l = l.alternatives ≡ l.fn.alternatives ++ map (at_end l.test) (take l.end-index l.ends)
