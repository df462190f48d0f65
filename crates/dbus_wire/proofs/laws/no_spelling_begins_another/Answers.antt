use Rattle.dbus_wire.proofs.RoundTrip.{no_prefix}
use Rattle.dbus_wire.proofs.laws.no_spelling_begins_another.Goals as goal

pub returns : goal.returns
returns c = no_prefix
