-- The chains of the zones so far came behind the others.
use Rattle.std.proofs.Common.{map, take}
use Rattle.std.specs.List.{filter}
use Rattle.lower_blocks.specs.Blocks.{Behind}
use Rattle.lower_blocks.specs.Blocks.Told.{of_zone}
use Rattle.lower_blocks.specs.Needed.{is_told}
use Rattle.lower_blocks.proofs.blocks.push_zones.Given as goal

abbrev pub invariant-loop-place : goal.invariant-loop-place
invariant-loop-place l = Behind l.runtime.config (map of_zone (filter (is_told l.runtime.config) (take l.place l.runtime.config.zones))) l.initial.chains l.chains
