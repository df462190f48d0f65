use Rattle.fw_zone_laws.proofs.Entries.{unbound_valid}
use Rattle.fw_zone_laws.proofs.laws.unbound_entry_keeps_valid.Goals as goal

pub returns : goal.returns
returns c = unbound_valid
