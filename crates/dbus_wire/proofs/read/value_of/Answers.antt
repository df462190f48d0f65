use Rattle.std.proofs.lemmas.Result.{err_from_is_err_and}
use Rattle.dbus_wire.proofs.ValueLaws.{value_fails, value_found}
use Rattle.dbus_wire.proofs.read.value_of.Goals as goal

pub returns-in_err-value : goal.returns-in_err-value
returns-in_err-value c =
    let p = err_from_is_err_and c.from_residual-in_err-value.result c.from_residual-in_err-value.ensures.1 in
    rw (p.1, p.2) (λ kind spells. value_fails c.in_err-value.field-0.0 c.args.endian c.args.signature.now c.in_ok-kind.kind kind c.args.offset _ c.args.bytes.now c.in_ok-kind.ensures spells c.split_at.ensures.back c.in_err-value.ensures)

pub returns : goal.returns
returns c =
    λ kind spells. value_found c.args.endian c.args.signature.now c.in_ok-kind.kind kind c.args.offset _ c.args.bytes.now c.in_ok-value.value c.in_ok-value.after.at c.in_ok-value.after.rest.now c.in_ok-kind.ensures spells c.split_at.ensures.back c.in_ok-value.ensures
