-- A rule for each alternative so far was added.
use Rattle.std.proofs.Common.{◌≡◌, ◌++◌}
use Rattle.lower_zone.specs.Forms.{each}
use Rattle.lower_zone.proofs.rules.push_each.Given as goal

abbrev pub invariant-loop-matches : goal.invariant-loop-matches
invariant-loop-matches l = l.rules ≡ l.fn.rules ++ each l.stmts l.yielded
