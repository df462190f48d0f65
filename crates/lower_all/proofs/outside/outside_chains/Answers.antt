-- The chains of the three sides, one behind another.
use Rattle.lower_all.proofs.Joining.{outside_joined}
use Rattle.lower_all.proofs.outside.outside_chains.Goals as goal

pub returns : goal.returns
returns c = outside_joined _ _ _ _ _ _ _ c.in_ok-chains.ensures c.in_ok-side_chains.ensures c.in_ok-side_chains-2.ensures c.in_ok-push_block.ensures c.in_ok-push_block-2.ensures
