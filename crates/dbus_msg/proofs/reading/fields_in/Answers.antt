use Rattle.std.proofs.Common.{rules}
use Rattle.dbus_msg.proofs.FieldReadingLaws.{fields_are}
use Rattle.dbus_msg.proofs.reading.fields_in.Goals as goal

pub returns : goal.returns
returns c = search (rules, fields_are)
