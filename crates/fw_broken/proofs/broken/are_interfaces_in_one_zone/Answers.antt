-- Of the zones of a configuration.
use Rattle.std.proofs.Common.{subst}
use Rattle.std.specs.Bool.{Decides}
use Rattle.fw_valid.specs.Valid.{IsInOneZone}
use Rattle.fw_zone.specs.Bindings.{interfaces_of, with_interfaces}
use Rattle.fw_broken.proofs.broken.are_interfaces_in_one_zone.Goals as goal

pub returns : goal.returns
returns c = subst (λ zones. Decides c.is_in_one_zone.result (IsInOneZone interfaces_of with_interfaces zones)) c.as_slice.ensures c.is_in_one_zone.ensures
