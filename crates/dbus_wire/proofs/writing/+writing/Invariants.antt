use Rattle.std.proofs.Common.{◌≡◌, ◌-◌, ◌++◌, length, take}
use Rattle.dbus_wire.specs.Spelling.{spellings}
use Rattle.dbus_wire.proofs.writing.+writing.Given as goal

abbrev pub invariant-push_values-loop-value : goal.invariant-push_values-loop-value
invariant-push_values-loop-value l = l.out.items ≡ l.fn.out.items ++ spellings l.endian (take l.value-index l.values) (length l.fn.out.items - l.origin)
