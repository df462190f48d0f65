use Rattle.fw_ipsets_valid.proofs.Members.{ipset_valid}
use Rattle.fw_ipsets_valid.proofs.laws.ipset_keeps_valid.Goals as goal

pub returns : goal.returns
returns c = ipset_valid
