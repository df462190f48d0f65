use Rattle.std.proofs.Common.{sym, ◌∙◌}
use Rattle.std.proofs.lemmas.Bool.{eqb-true, eqb-false}
use Rattle.std.proofs.lemmas.Result.{err_from_is_err_and}
use Rattle.dbus_wire.proofs.ValueLaws.{some_left, none_left, items_go_on, items_end, items_done, items_left}
use Rattle.dbus_wire.proofs.fixed.row_at.Goals as goal
use Rattle.dbus_wire.proofs.fixed.row_at.Goals.{else-loop-test, then-loop-test+then-is_empty}

pub returns-in_err-number : goal.returns-in_err-number
returns-in_err-number g c =
    let p = err_from_is_err_and c.from_residual-in_err-number.result c.from_residual-in_err-number.ensures.1 in
    rw (p.1, p.2) (items_end (g.T.Fixed.reading c.args.endian) c.in_err-number.field-0.0 c.loop.numbers.items _ c.loop.counter c.loop.next.at c.loop.next.rest.now _ c.loop-test.true (some_left c.loop.next.rest.now c.is_empty.result c.is_empty.ensures c.if-is_empty.false) c.in_err-number.ensures c.loop.invariant)

pub loop-preserved : goal.loop-preserved
loop-preserved g c =
    rw c.in_ok-push.ensures.items (items_go_on (g.T.Fixed.reading c.args.endian) c.loop.numbers.items _ c.loop.counter c.loop.next.at c.loop.next.rest.now c.in_ok-number.number c.in_ok-number.after.at c.in_ok-number.after.rest.now _ c.loop-test.true (some_left c.loop.next.rest.now c.is_empty.result c.is_empty.ensures c.if-is_empty.false) c.in_ok-number.ensures c.loop.invariant)

pub returns-then-not-is_empty : goal.returns-then-not-is_empty
returns-then-not-is_empty g c =
    elim c.loop-test.branch [
      | else-loop-test w ↦ items_left (g.T.Fixed.reading c.args.endian) c.loop.numbers.items _ c.loop.counter c.loop.next.at c.loop.next.rest.now _ w.loop-test.false (some_left c.loop.next.rest.now c.is_empty-2.result c.is_empty-2.ensures c.if-not-is_empty.true) c.loop.invariant
      | then-loop-test+then-is_empty w ↦ absurd (eqb-false _ _ (sym c.is_empty-2.ensures ∙ c.if-not-is_empty.true) (eqb-true _ _ (sym w.is_empty.ensures ∙ w.if-is_empty.true)))
    ]

pub returns : goal.returns
returns g c =
    rw c.from_vec.ensures (items_done (g.T.Fixed.reading c.args.endian) c.loop.numbers.items _ c.loop.next.at c.loop.next.rest.now _ (none_left c.loop.next.rest.now c.is_empty-2.result c.is_empty-2.ensures c.if-not-is_empty.false) c.loop.invariant)
