use Rattle.fw_addr.proofs.NetLaws.{address_back}
use Rattle.fw_addr.proofs.laws.printed_addresses_are_read.Goals as goal

pub returns : goal.returns
returns c = address_back c.decimal_is_read.ensures.read
