use Rattle.dbus_signature.proofs.Whole.{one_type_is, one_type_never_fails}
use Rattle.dbus_signature.proofs.signature.Signature.kind.Goals as goal

pub unreachable-requires : goal.unreachable-requires
unreachable-requires c =
    one_type_never_fails c.args.self.now c.in-Err-Bad.field-0-0 c.requires (rw c.as_bytes.ensures.bytes at (rw c.in-Err-Bad.field-0-is at c.in-Err-Bad.ensures.exact))

pub returns-in-Ok : goal.returns-in-Ok
returns-in-Ok c = one_type_is c.args.self.now _ c.requires (rw c.as_bytes.ensures.bytes at c.in-Ok.ensures.exact)
