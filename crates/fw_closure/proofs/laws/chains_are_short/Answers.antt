use Rattle.fw_closure.proofs.Chains.{short_chains}
use Rattle.fw_closure.proofs.laws.chains_are_short.Goals as goal

pub returns : goal.returns
returns c = short_chains
