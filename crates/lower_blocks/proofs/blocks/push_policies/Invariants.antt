-- The chains of the policies so far came behind the others.
use Rattle.std.proofs.Common.{map, take}
use Rattle.std.specs.List.{filter}
use Rattle.fw_order.specs.Borrowed.{lent}
use Rattle.lower_blocks.specs.Blocks.{Behind}
use Rattle.lower_blocks.specs.Blocks.Told.{of_policy}
use Rattle.lower_blocks.specs.Needed.{is_needed}
use Rattle.lower_blocks.proofs.blocks.push_policies.Given as goal

abbrev pub invariant-loop-place : goal.invariant-loop-place
invariant-loop-place l = Behind l.runtime.config (map of_policy (filter (is_needed (lent l.zones)) (take l.place l.runtime.config.policies))) l.initial.chains l.chains
