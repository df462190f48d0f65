use Rattle.fw_addr.specs.Addresses.{address}
use Rattle.fw_load.specs.Values.{host}
use Rattle.fw_load.proofs.Found.{read_found}
use Rattle.fw_load.proofs.texts.host.Goals as goal

pub returns : goal.returns
unfolding host
returns c = read_found (address c.args.text.now) _ c.read_addr.result c.ok.result c.read_addr.ensures c.ok.ensures.value
