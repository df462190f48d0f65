use Rattle.fw_valid.proofs.BuiltIn.{built_in_is_valid}
use Rattle.fw_valid.proofs.laws.the_built_in_configuration_is_valid.Goals as goal

pub returns : goal.returns
returns c = built_in_is_valid
