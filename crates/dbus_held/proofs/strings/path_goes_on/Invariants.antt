use Rattle.std.proofs.Common.{◌≡◌, true, drop}
use Rattle.dbus_wire.specs.Texts.{path_goes_on}
use Rattle.dbus_held.proofs.strings.path_goes_on.Given as goal

abbrev pub invariant-loop-byte : goal.invariant-loop-byte
invariant-loop-byte l = path_goes_on l.due (drop l.byte-index l.bytes) ≡ path_goes_on true l.bytes
