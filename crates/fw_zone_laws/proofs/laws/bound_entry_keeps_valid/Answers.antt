use Rattle.fw_zone_laws.proofs.Entries.{bound_valid}
use Rattle.fw_zone_laws.proofs.laws.bound_entry_keeps_valid.Goals as goal

pub returns : goal.returns
returns c = bound_valid
