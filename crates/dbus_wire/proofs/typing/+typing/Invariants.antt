use Rattle.std.proofs.Common.{◌≡◌, ◌++◌, take}
use Rattle.dbus_wire.specs.TypeCodes.{types_codes}
use Rattle.dbus_wire.proofs.typing.+typing.Given as goal

abbrev pub invariant-push_types-loop-value : goal.invariant-push_types-loop-value
invariant-push_types-loop-value l = l.out.items ≡ l.fn.out.items ++ types_codes (take l.value-index l.values)
