use Rattle.fw_addr.proofs.LawLemmas.{mac_back}
use Rattle.fw_addr.proofs.laws.printed_hardware_addresses_are_read.Goals as goal

pub returns : goal.returns
returns c = mac_back
