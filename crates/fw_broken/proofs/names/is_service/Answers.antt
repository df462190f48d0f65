-- A name is one of theirs.
use Rattle.std.proofs.Common.{refl}
use Rattle.fw_model.specs.declared.service.Service.{Service}
use Rattle.fw_broken.proofs.Lists.{among_same}
use Rattle.fw_broken.proofs.names.is_service.Goals as goal

pub returns : goal.returns
returns c = among_same (λ (item : Service). item.name) _ _ _ _ _ c.as_slice.ensures refl c.has_name.ensures
