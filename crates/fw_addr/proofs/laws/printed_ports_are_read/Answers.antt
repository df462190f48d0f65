use Rattle.fw_addr.proofs.LawLemmas.{ports_back}
use Rattle.fw_addr.proofs.laws.printed_ports_are_read.Goals as goal

pub returns : goal.returns
returns c = ports_back c.decimal_is_read.ensures.read
