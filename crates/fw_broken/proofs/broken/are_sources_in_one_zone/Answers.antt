-- Of the zones of a configuration.
use Rattle.std.proofs.Common.{subst}
use Rattle.std.specs.Bool.{Decides}
use Rattle.fw_valid.specs.Valid.{IsInOneZone}
use Rattle.fw_zone.specs.Bindings.{sources_of, with_sources}
use Rattle.fw_broken.proofs.broken.are_sources_in_one_zone.Goals as goal

pub returns : goal.returns
returns c = subst (λ zones. Decides c.is_in_one_zone.result (IsInOneZone sources_of with_sources zones)) c.as_slice.ensures c.is_in_one_zone.ensures
