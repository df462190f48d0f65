use Rattle.std.proofs.Common.{◌≡◌, ◌-◌}
use Rattle.dbus_wire.specs.Fields.{zeros_at}
use Rattle.dbus_held.proofs.fields.zeros_at.Given as goal

abbrev pub invariant-loop : goal.invariant-loop
invariant-loop l = zeros_at (l.count - l.counter) l.next.at l.next.rest.now ≡ zeros_at l.count l.fn.from.at l.fn.from.rest.now
