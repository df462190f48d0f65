use Rattle.dbus_wire.proofs.WrittenLaws.{read_is_written, spelt_is_written}
use Rattle.dbus_wire.proofs.laws.read_is_written_again.Goals as goal

pub returns-clause-read : goal.returns-clause-read
returns-clause-read c = read_is_written

pub returns-clause-spelt : goal.returns-clause-spelt
returns-clause-spelt c = spelt_is_written
