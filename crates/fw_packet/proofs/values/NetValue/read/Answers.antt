use Rattle.std.proofs.Common.{subst}
use Rattle.fw_addr.specs.Nets.{net}
use Rattle.fw_model.specs.Packets.{IsAddress}
use Rattle.fw_packet.proofs.Ends.{found_by, none_by}
use Rattle.fw_packet.proofs.values.NetValue.read.Goals as goal

pub returns-in_default-clause-says : goal.returns-in_default-clause-says
returns-in_default-clause-says c = none_by (net c.args.text.now) _ _ c.in_default.ensures

pub returns-clause-says : goal.returns-clause-says
returns-clause-says c = found_by (net c.args.text.now) _ _ c.in-Ok.ensures

pub returns-clause-in_range : goal.returns-clause-in_range
returns-clause-in_range c =
    record { address = subst IsAddress c.addr.ensures c.address_fits.ensures; cleared = c.prefix-prefix.ensures.cleared }
