use Rattle.fw_addr.specs.Addresses.{address}
use Rattle.fw_packet.proofs.Ends.{found_by, none_by}
use Rattle.fw_packet.proofs.values.AddrValue.read.Goals as goal

pub returns-in_default-clause-says : goal.returns-in_default-clause-says
returns-in_default-clause-says c = none_by (address c.args.text.now) _ _ c.in_default.ensures

pub returns-clause-says : goal.returns-clause-says
returns-clause-says c = found_by (address c.args.text.now) _ _ c.in-Ok.ensures
