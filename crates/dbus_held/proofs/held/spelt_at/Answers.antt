use Rattle.std.proofs.Common.{sym, subst, arith}
use Rattle.std.proofs.lemmas.Result.{err_from_is_err_and}
use Rattle.dbus_wire.proofs.Took.{IsBytes, bytes_drop}
use Rattle.dbus_held.proofs.HeldLaws.{left_short, text_fails, text_found}
use Rattle.dbus_held.proofs.held.spelt_at.Goals as goal

pub returns-in_err-after-clause-exact : goal.returns-in_err-after-clause-exact
returns-in_err-after-clause-exact c =
    let p = err_from_is_err_and c.from_residual.result c.from_residual.ensures.1 in
    rw (p.1, p.2) (text_fails c.in_err-after.field-0.0 c.args.endian c.args.kinds.now c.args.offset _ c.args.bytes.now c.split_at.ensures.back c.in_err-after.ensures)

pub overflow_sub-rest : goal.overflow_sub-rest
overflow_sub-rest c =
    left_short c.args.endian c.args.kinds.now c.args.offset c.split_at.result.1.now _ c.in_ok-after.after.at c.in_ok-after.after.rest.now c.requires.kinds
    (subst IsBytes (sym c.split_at.ensures.back) (bytes_drop c.args.offset c.args.bytes.now (λ i. omega (arith, c.type_inv.bytes i)))) c.in_ok-after.ensures

pub returns-clause-exact : goal.returns-clause-exact
returns-clause-exact c =
    text_found c.args.endian c.args.kinds.now c.args.offset c.split_at.result.1.now c.args.bytes.now _ c.in_ok-after.after.at c.in_ok-after.after.rest.now c.split_at-2.result.0.now c.requires.kinds
    (subst IsBytes (sym c.split_at.ensures.back) (bytes_drop c.args.offset c.args.bytes.now (λ i. omega (arith, c.type_inv.bytes i)))) c.split_at.ensures.back c.in_ok-after.ensures c.split_at-2.ensures.front
