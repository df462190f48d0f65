use Rattle.fw_kept_valid.proofs.Bindings.{binding_valid}
use Rattle.fw_kept_valid.proofs.laws.binding_keeps_valid.Goals as goal

pub returns : goal.returns
returns c = binding_valid
