use Rattle.std.proofs.lemmas.Result.{err_from_is_err_and}
use Rattle.dbus_wire.proofs.RowLaws.{kinds_are, no_kinds, values_fail, values_found}
use Rattle.dbus_wire.proofs.read.read_values.Goals as goal

pub members_at-requires : goal.members_at-requires
members_at-requires c =
    rw c.as_slice.ensures (kinds_are c.args.signature.now c.in_ok-kinds.kinds (rw c.as_bytes.ensures.bytes at c.in_ok-kinds.ensures) c.as_bytes.ensures.valid)

pub returns-in_err-kinds : goal.returns-in_err-kinds
returns-in_err-kinds c =
    let p = err_from_is_err_and c.from_residual.result c.from_residual.ensures.1 in
    rw (p.1, p.2) (λ kinds is. no_kinds c.in_err-kinds.field-0.0 c.args.signature.now kinds _ (rw c.as_bytes.ensures.bytes at c.in_err-kinds.ensures) is)

pub returns-in_err-values : goal.returns-in_err-values
returns-in_err-values c =
    let p = err_from_is_err_and c.from_residual-in_err-values.result c.from_residual-in_err-values.ensures.1 in
    rw (p.1, p.2) (λ kinds is. values_fail c.in_err-values.field-0.0 c.args.endian c.args.signature.now c.in_ok-kinds.kinds kinds c.args.offset _ c.args.bytes.now (rw c.as_bytes.ensures.bytes at c.in_ok-kinds.ensures) is c.split_at.ensures.back (rw c.as_slice.ensures at c.in_err-values.ensures))

pub returns : goal.returns
returns c =
    λ kinds is. values_found c.args.endian c.args.signature.now c.in_ok-kinds.kinds kinds c.args.offset _ c.args.bytes.now c.in_ok-values.values c.in_ok-values.after.at c.in_ok-values.after.rest.now (rw c.as_bytes.ensures.bytes at c.in_ok-kinds.ensures) is c.split_at.ensures.back (rw c.as_slice.ensures at c.in_ok-values.ensures)
