use Rattle.dbus_held.proofs.EndLaws.{ends_are}
use Rattle.dbus_held.proofs.laws.values_end_where_they_are_read.Goals as goal

pub returns : goal.returns
returns c = λ endian room kind at text. (ends_are endian room).values kind at text
