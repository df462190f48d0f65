use Rattle.fw_addr.specs.Nets.{net}
use Rattle.fw_load.specs.Values.{network}
use Rattle.fw_load.proofs.Found.{read_found}
use Rattle.fw_load.proofs.texts.network.Goals as goal

pub returns : goal.returns
unfolding network
returns c = read_found (net c.args.text.now) _ c.read_net.result c.ok.result c.read_net.ensures c.ok.ensures.value
