-- The rules that were given so far were added.
use Rattle.std.proofs.Common.{◌≡◌, ◌++◌}
use Rattle.lower_hooks.proofs.chains.push_rules.Given as goal

abbrev pub invariant-loop-rule : goal.invariant-loop-rule
invariant-loop-rule l = l.rules ≡ l.initial.rules ++ l.yielded
