use Rattle.std.proofs.Common.{◌≡◌, ◌++◌, take}
use Rattle.dbus_signature.specs.Types.{all_codes}
use Rattle.dbus_signature.proofs.spelling.+spelling.Given as goal

abbrev pub invariant-push_all-loop-kind : goal.invariant-push_all-loop-kind
invariant-push_all-loop-kind l = l.out.items ≡ l.fn.out.items ++ all_codes (take l.kind-index l.kinds)
