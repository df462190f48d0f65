use Rattle.std.proofs.Common.{arith}
use Rattle.dbus_wire.proofs.ReadLaws.{found_is_spelt, spelt_is_found}
use Rattle.dbus_wire.proofs.read.read_value.Goals as goal

pub returns-clause-found : goal.returns-clause-found
returns-clause-found c =
    found_is_spelt c.value_of.result c.args.endian c.args.signature.now c.args.offset c.args.bytes.now (λ i. omega (arith, c.type_inv.bytes i)) c.value_of.ensures

pub returns-clause-only : goal.returns-clause-only
returns-clause-only c =
    λ kind found spells there. spelt_is_found c.value_of.result c.args.endian c.args.signature.now c.args.offset c.args.bytes.now c.value_of.ensures kind found spells there
