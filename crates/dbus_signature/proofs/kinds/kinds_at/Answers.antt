use Rattle.std.proofs.Common.{arith}
use Rattle.std.proofs.lemmas.Result.{err_from_is_err_and}
use Rattle.dbus_signature.proofs.Loops.{kinds_go_on, kinds_end, kinds_done}
use Rattle.dbus_signature.proofs.kinds.kinds_at.Goals as goal

pub returns-in_err-kind : goal.returns-in_err-kind
returns-in_err-kind c =
    let p = err_from_is_err_and c.from_residual.result c.from_residual.ensures.1 in
    rw (p.1, p.2) (kinds_end c.in_err-kind.field-0.0 c.loop-next.kinds c.loop-next.next.at c.loop-next.next.rest.now _ _ (grind arith) c.in_err-kind.ensures.exact c.loop-next.invariant)

pub loop-next-preserved : goal.loop-next-preserved
loop-next-preserved c =
    rw c.in_ok-push.ensures.ok (kinds_go_on c.loop-next.kinds c.loop-next.next.at c.loop-next.next.rest.now c.in_ok-kind.kind c.in_ok-kind.after.at c.in_ok-kind.after.rest.now _ _ c.in_ok-kind.ensures.exact c.in_ok-kind.ensures.shorter c.loop-next.invariant)

pub returns : goal.returns
returns c = kinds_done c.loop-next.kinds c.loop-next.next.at c.loop-next.next.rest.now _ _ (grind arith) c.loop-next.invariant
