use Rattle.lower_dispatch.proofs.Used.{packets_use}
use Rattle.lower_dispatch.proofs.laws.packets_use_zones.Goals as goal

pub returns : goal.returns
returns c = packets_use
