use Rattle.dbus_signature.proofs.Whole.{one_type_tells, no_type_tells}
use Rattle.dbus_signature.proofs.signature.Signature.is_one_type.Goals as goal

pub returns-in-Err-Bad : goal.returns-in-Err-Bad
returns-in-Err-Bad c =
    no_type_tells c.args.self.now c.in-Err-Bad.field-0-0 (rw c.as_bytes.ensures.bytes at (rw c.in-Err-Bad.field-0-is at c.in-Err-Bad.ensures.exact))

pub returns : goal.returns
returns c =
    one_type_tells c.args.self.now c.in-Ok.found.0 c.in-Ok.found.1.at c.in-Ok.found.1.rest.now c.is_empty.result c.as_bytes.ensures.valid (rw c.as_bytes.ensures.bytes at c.in-Ok.ensures.exact) c.is_empty.ensures
