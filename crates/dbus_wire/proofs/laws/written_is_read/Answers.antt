use Rattle.dbus_wire.proofs.RoundTrip.{written_again}
use Rattle.dbus_wire.proofs.laws.written_is_read.Goals as goal

pub returns : goal.returns
returns c = written_again
