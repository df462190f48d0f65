use Rattle.std.proofs.Common.{arith, ap}
use denote.Param.Weighed.{at_most}
use Rattle.dbus_wire.proofs.value.Value.TheLaws.{the_size}
use Rattle.std.proofs.lemmas.Result.{err_from_is_err_and}
use Rattle.dbus_wire.proofs.KeepsLaws.{begins_more}
use Rattle.dbus_wire.proofs.TypeLaws.{types_go_on}
use Rattle.dbus_wire.proofs.typing.+typing.Goals as goal

pub push_types-loop-value-preserved : goal.push_types-loop-value-preserved
push_types-loop-value-preserved t c =
    types_go_on c.args.values.now c.loop-value.value-index c.value-item.result c.args.out.now.items c.loop-value.out.items _ c.loop-value-test.true c.value-item.is c.loop-value.invariant c.in_ok-push_type.ensures.ok

pub push_types-returns-in_err-push_type-clause-err : goal.push_types-returns-in_err-push_type-clause-err
push_types-returns-in_err-push_type-clause-err t c =
    let p = err_from_is_err_and c.from_residual.result c.from_residual.ensures.1 in
    rw p.1 (λ front begins. c.in_err-push_type.ensures.err front (begins_more front _ _ _ c.loop-value.invariant begins))
