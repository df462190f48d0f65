use Rattle.fw_addr.proofs.NetLaws.{net_back}
use Rattle.fw_addr.proofs.laws.printed_nets_are_read.Goals as goal

pub returns : goal.returns
returns c = net_back c.decimal_is_read.ensures.read
