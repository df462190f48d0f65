-- The chains so far were added.
use Rattle.std.proofs.Common.{◌≡◌, ◌++◌}
use Rattle.lower_blocks.proofs.blocks.push_block.Given as goal

abbrev pub invariant-loop-chain : goal.invariant-loop-chain
invariant-loop-chain l = l.chains ≡ l.initial.chains ++ l.yielded
