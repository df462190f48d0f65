use Rattle.fw_times_valid.proofs.Links.{link_valid}
use Rattle.fw_times_valid.proofs.laws.link_keeps_valid.Goals as goal

pub returns : goal.returns
returns c = link_valid
