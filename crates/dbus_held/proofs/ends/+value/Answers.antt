use Rattle.std.proofs.Common.{rules, sym, ◌∙◌}
use Rattle.std.proofs.lemmas.Bool.{eqb-true, eqb-false}
use Rattle.std.proofs.lemmas.Result.{err_from_is_err_and}
use Rattle.dbus_signature.proofs.Inner.{element_is, value_is, members_is}
use Rattle.dbus_held.specs.Elements.{element_end}
use Rattle.dbus_held.specs.Ends.{value_end}
use Rattle.dbus_held.proofs.EndSteps.{elements_end, entry_closed, items_go_on, items_fail, items_done, items_left, members_go_on, members_fail, members_done}
use Rattle.dbus_wire.proofs.ValueLaws.{some_left, none_left}
use Rattle.dbus_held.proofs.ends.+value.Goals as goal
use Rattle.dbus_held.proofs.ends.+value.Goals.{items_end-else-loop-test, items_end-then-loop-test+then-is_empty}

pub entry_end-returns-then-context-eq0 : goal.entry_end-returns-then-context-eq0
entry_end-returns-then-context-eq0 t c = rw c.if-context-eq0.true (entry_closed c.args.context.endian c.args.key c.args.kind.now c.args.from.at c.args.from.rest.now)

pub items_end-returns-in_err-after : goal.items_end-returns-in_err-after
items_end-returns-in_err-after t c =
    let p = err_from_is_err_and c.from_residual.result c.from_residual.ensures.1 in
    rw (p.1, p.2) (items_fail (element_end c.args.context.endian c.args.context.room c.args.element) c.in_err-after.field-0.0 _ c.loop.counter c.loop.next.at c.loop.next.rest.now _ c.loop-test.true (some_left c.loop.next.rest.now c.is_empty.result c.is_empty.ensures c.if-is_empty.false) c.in_err-after.ensures c.loop.invariant)

pub items_end-returns-then-are_bytes : goal.items_end-returns-then-are_bytes
items_end-returns-then-are_bytes t c =
    elements_end c.args.context.endian c.args.context.room c.args.element c.args.from.at c.args.from.rest.now (c.are_bytes.ensures c.if-are_bytes.true)

pub items_end-loop-preserved : goal.items_end-loop-preserved
items_end-loop-preserved t c =
    items_go_on (element_end c.args.context.endian c.args.context.room c.args.element) _ c.loop.counter c.loop.next.at c.loop.next.rest.now _ c.in_ok-after.after.at c.in_ok-after.after.rest.now _ c.loop-test.true (some_left c.loop.next.rest.now c.is_empty.result c.is_empty.ensures c.if-is_empty.false) c.in_ok-after.ensures c.loop.invariant

pub items_end-returns-then-not-is_empty : goal.items_end-returns-then-not-is_empty
items_end-returns-then-not-is_empty t c =
    elim c.loop-test.branch [
      | items_end-else-loop-test w ↦ items_left (element_end c.args.context.endian c.args.context.room c.args.element) _ c.loop.counter c.loop.next.at c.loop.next.rest.now _ w.loop-test.false (some_left c.loop.next.rest.now c.is_empty-2.result c.is_empty-2.ensures c.if-not-is_empty.true) c.loop.invariant
      | items_end-then-loop-test+then-is_empty w ↦ absurd (eqb-false _ _ (sym c.is_empty-2.ensures ∙ c.if-not-is_empty.true) (eqb-true _ _ (sym w.is_empty.ensures ∙ w.if-is_empty.true)))
    ]

pub items_end-returns : goal.items_end-returns
items_end-returns t c =
    items_done (element_end c.args.context.endian c.args.context.room c.args.element) _ c.loop.next.at c.loop.next.rest.now _ (none_left c.loop.next.rest.now c.is_empty-2.result c.is_empty-2.ensures c.if-not-is_empty.false) c.loop.invariant

pub members_end-returns-in_err-after : goal.members_end-returns-in_err-after
members_end-returns-in_err-after t c =
    let p = err_from_is_err_and c.from_residual.result c.from_residual.ensures.1 in
    rw (p.1, p.2) (members_fail (value_end c.args.context.endian c.args.context.room) c.in_err-after.field-0.0 c.args.kinds.now c.loop-kind.kind-index c.kind-item.result c.loop-kind.next.at c.loop-kind.next.rest.now _ c.loop-kind-test.true c.kind-item.is c.in_err-after.ensures c.loop-kind.invariant)

pub members_end-loop-kind-preserved : goal.members_end-loop-kind-preserved
members_end-loop-kind-preserved t c =
    members_go_on (value_end c.args.context.endian c.args.context.room) c.args.kinds.now c.loop-kind.kind-index c.kind-item.result c.loop-kind.next.at c.loop-kind.next.rest.now _ c.in_ok-after.after.at c.in_ok-after.after.rest.now _ c.loop-kind-test.true c.kind-item.is c.in_ok-after.ensures c.loop-kind.invariant

pub members_end-returns : goal.members_end-returns
members_end-returns t c =
    members_done (value_end c.args.context.endian c.args.context.room) c.args.kinds.now c.loop-kind.kind-index c.loop-kind.next.at c.loop-kind.next.rest.now _ c.loop-kind-test.false c.loop-kind.invariant

pub open_value_end-array_end-requires : goal.open_value_end-array_end-requires
open_value_end-array_end-requires t c =
    (search rules, rw c.get.ensures (element_is c.in-Array.inner (rw c.in-Array.is at c.requires)))

pub open_value_end-array_end-requires-in-Dict : goal.open_value_end-array_end-requires-in-Dict
open_value_end-array_end-requires-in-Dict t c =
    (search rules, rw c.get-in-Dict.ensures (value_is c.in-Dict.key c.in-Dict.inner (rw c.in-Dict.is at c.requires)))

pub open_value_end-struct_end-requires : goal.open_value_end-struct_end-requires
open_value_end-struct_end-requires t c =
    (search rules, rw c.as_slice.ensures (members_is c.in-Struct.members (rw c.in-Struct.is at c.requires)))
