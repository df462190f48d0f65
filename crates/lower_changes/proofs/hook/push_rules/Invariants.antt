-- The rules so far were added.
use Rattle.std.proofs.Common.{◌≡◌, ◌++◌}
use Rattle.lower_changes.proofs.hook.push_rules.Given as goal

abbrev pub invariant-loop-rule : goal.invariant-loop-rule
invariant-loop-rule l = l.rules ≡ l.initial.rules ++ l.yielded
