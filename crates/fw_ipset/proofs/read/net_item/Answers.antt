-- What the reader of nets answers says what the text is.
use Rattle.fw_addr.specs.Nets.{net}
use Rattle.fw_ipset.proofs.Items.{net_none, net_some}
use Rattle.fw_ipset.proofs.read.net_item.Goals as goal

pub returns-in-Ok : goal.returns-in-Ok
returns-in-Ok c = net_some (net c.args.text.now) _ c.in-Ok.net c.read_net.result c.read_net.ensures c.in-Ok.is

pub returns-in-Err : goal.returns-in-Err
returns-in-Err c = net_none (net c.args.text.now) _ c.in-Err.field-0 c.read_net.result c.read_net.ensures c.in-Err.is
