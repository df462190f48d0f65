use Rattle.std.proofs.Common.{◌≡◌, ◌-◌, length}
use Rattle.dbus_msg.specs.FieldReading.{take_fields}
use Rattle.dbus_msg.proofs.field_reading.take_fields.Given as goal

abbrev pub invariant-loop : goal.invariant-loop
invariant-loop l =
    take_fields l.endian (length l.fn.from.rest.now - l.counter) l.known l.next.at l.next.rest.now
    ≡ take_fields l.endian (length l.fn.from.rest.now) l.fn.known l.fn.from.at l.fn.from.rest.now
