use Rattle.std.proofs.Common.{sym, ◌∙◌, arith}
use Rattle.dbus_held.proofs.HeldLaws.{typed_held}
use Rattle.dbus_held.proofs.held.codes_held.Goals as goal

pub returns : goal.returns
returns c = typed_held c.args.endian c.args.signature.now c.args.shift c.args.bytes.now c.requires (λ i. omega (arith, c.type_inv.bytes i)) ∙ sym c.as_bytes.ensures.bytes
