-- A name is one of theirs.
use Rattle.std.proofs.Common.{refl}
use Rattle.fw_model.specs.declared.zone.Zone.{Zone}
use Rattle.fw_broken.proofs.Lists.{among_same}
use Rattle.fw_broken.proofs.names.is_zone.Goals as goal

pub returns : goal.returns
returns c = among_same (λ (item : Zone). item.name) _ _ _ _ _ c.as_slice.ensures refl c.has_name.ensures
