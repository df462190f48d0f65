use Rattle.std.proofs.Common.{◌≡◌, ◌-◌, length}
use Rattle.dbus_wire.specs.Values.{items_at}
use Rattle.dbus_wire.proofs.ValueLaws.{with_values}
use Rattle.dbus_wire.proofs.fixed.row_at.Given as goal

abbrev pub invariant-loop : goal.invariant-loop
invariant-loop g l =
    with_values l.numbers.items (items_at (g.T.Fixed.reading l.endian) (length l.fn.from.rest.now - l.counter) l.next.at l.next.rest.now)
    ≡ items_at (g.T.Fixed.reading l.endian) (length l.fn.from.rest.now) l.fn.from.at l.fn.from.rest.now
