-- The names of all of them.
use Rattle.std.proofs.Common.{map, subst}
use Rattle.std.specs.Bool.{Decides}
use Rattle.fw_model.specs.declared.service.Service.{Service}
use Rattle.fw_valid.specs.Names.{AreNames}
use Rattle.fw_broken.proofs.names.are_services_named.Goals as goal

pub returns : goal.returns
returns c = subst (λ items. Decides c.are_names.result (AreNames (map (λ (service : Service). service.name) items))) c.as_slice.ensures c.are_names.ensures
