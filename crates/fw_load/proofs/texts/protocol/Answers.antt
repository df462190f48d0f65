use Rattle.fw_addr.specs.Protocols.{proto}
use Rattle.fw_load.specs.Values.{protocol}
use Rattle.fw_load.proofs.Found.{read_found}
use Rattle.fw_load.proofs.texts.protocol.Goals as goal

pub returns : goal.returns
unfolding protocol
returns c = read_found (proto c.args.text.now) _ c.read_proto.result c.ok.result c.read_proto.ensures c.ok.ensures.value
