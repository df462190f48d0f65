use Rattle.std.proofs.lemmas.Result.{err_from_is_err_and}
use Rattle.dbus_wire.proofs.KeepsLaws.{begins_more}
use Rattle.dbus_wire.proofs.SpellingLaws.{numbers_go_on, still_behind}
use Rattle.dbus_wire.proofs.fixed.push_row.Goals as goal

pub push-requires : goal.push-requires
push-requires g c = still_behind c.args.out.now.items _ c.loop-number.out.items c.args.origin c.requires c.loop-number.invariant

pub loop-number-preserved : goal.loop-number-preserved
loop-number-preserved g c =
    numbers_go_on (g.T.Fixed.written c.args.endian) c.args.numbers.now c.loop-number.number-index c.number-item.result c.args.out.now.items c.loop-number.out.items _ c.args.origin c.loop-number-test.true c.number-item.is c.requires c.loop-number.invariant c.in_ok-push.ensures.ok

pub returns-in_err-push-clause-err : goal.returns-in_err-push-clause-err
returns-in_err-push-clause-err g c =
    let p = err_from_is_err_and c.from_residual.result c.from_residual.ensures.1 in
    rw p.1 (λ front begins. c.in_err-push.ensures.err front (begins_more front _ _ _ c.loop-number.invariant begins))
