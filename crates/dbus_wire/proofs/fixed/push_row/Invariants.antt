use Rattle.std.proofs.Common.{◌≡◌, ◌-◌, ◌++◌, length, map, take}
use Rattle.dbus_wire.specs.Spelling.{in_row}
use Rattle.dbus_wire.proofs.fixed.push_row.Given as goal

abbrev pub invariant-loop-number : goal.invariant-loop-number
invariant-loop-number g l = l.out.items ≡ l.fn.out.items ++ in_row (map (g.T.Fixed.written l.endian) (take l.number-index l.numbers)) (length l.fn.out.items - l.origin)
