use Rattle.std.proofs.Common.{rules, sym, subst, ◌∙◌}
use Rattle.std.proofs.lemmas.Bool.{eqb-true, eqb-false}
use Rattle.std.proofs.lemmas.Result.{err_from_is_err_and}
use Rattle.dbus_signature.proofs.Inner.{element_is, value_is, members_is}
use Rattle.dbus_signature.specs.declared.kind.Kind.{Kind}
use Rattle.dbus_wire.specs.Arrays.{IsFixed, IsOther}
use Rattle.dbus_wire.specs.Elements.{element_at}
use Rattle.dbus_wire.specs.Values.{value_at}
use Rattle.dbus_wire.proofs.ArrayLaws.{fixed_opens, other_opens}
use Rattle.dbus_wire.proofs.ValueLaws.{entry_closed, some_left, none_left, items_go_on, items_end, items_done, items_left, members_go_on, members_end, members_done}
use Rattle.dbus_wire.proofs.containers.+value.Goals as goal
use Rattle.dbus_wire.proofs.containers.+value.Goals.{items_at-else-loop-test, items_at-then-loop-test+then-is_empty}

pub entry_at-returns-then-context-eq0 : goal.entry_at-returns-then-context-eq0
entry_at-returns-then-context-eq0 t c = rw c.if-context-eq0.true (entry_closed c.args.context.endian c.args.key c.args.kind.now c.args.from.at c.args.from.rest.now)

pub items_at-returns-in_err-item : goal.items_at-returns-in_err-item
items_at-returns-in_err-item t c =
    let p = err_from_is_err_and c.from_residual.result c.from_residual.ensures.1 in
    rw (p.1, p.2) (items_end (element_at c.args.context.endian c.args.context.room c.args.element) c.in_err-item.field-0.0 c.loop.items _ c.loop.counter c.loop.next.at c.loop.next.rest.now _ c.loop-test.true (some_left c.loop.next.rest.now c.is_empty.result c.is_empty.ensures c.if-is_empty.false) c.in_err-item.ensures c.loop.invariant)

pub items_at-loop-preserved : goal.items_at-loop-preserved
items_at-loop-preserved t c =
    rw c.in_ok-push.ensures.ok (items_go_on (element_at c.args.context.endian c.args.context.room c.args.element) c.loop.items _ c.loop.counter c.loop.next.at c.loop.next.rest.now c.in_ok-item.item c.in_ok-item.after.at c.in_ok-item.after.rest.now _ c.loop-test.true (some_left c.loop.next.rest.now c.is_empty.result c.is_empty.ensures c.if-is_empty.false) c.in_ok-item.ensures c.loop.invariant)

pub items_at-returns-then-not-is_empty : goal.items_at-returns-then-not-is_empty
items_at-returns-then-not-is_empty t c =
    elim c.loop-test.branch [
      | items_at-else-loop-test w ↦ items_left (element_at c.args.context.endian c.args.context.room c.args.element) c.loop.items _ c.loop.counter c.loop.next.at c.loop.next.rest.now _ w.loop-test.false (some_left c.loop.next.rest.now c.is_empty-2.result c.is_empty-2.ensures c.if-not-is_empty.true) c.loop.invariant
      | items_at-then-loop-test+then-is_empty w ↦ absurd (eqb-false _ _ (sym c.is_empty-2.ensures ∙ c.if-not-is_empty.true) (eqb-true _ _ (sym w.is_empty.ensures ∙ w.if-is_empty.true)))
    ]

pub items_at-returns : goal.items_at-returns
items_at-returns t c =
    items_done (element_at c.args.context.endian c.args.context.room c.args.element) c.loop.items _ c.loop.next.at c.loop.next.rest.now _ (none_left c.loop.next.rest.now c.is_empty-2.result c.is_empty-2.ensures c.if-not-is_empty.false) c.loop.invariant

pub members_at-returns-in_err-member : goal.members_at-returns-in_err-member
members_at-returns-in_err-member t c =
    let p = err_from_is_err_and c.from_residual.result c.from_residual.ensures.1 in
    rw (p.1, p.2) (members_end (value_at c.args.context.endian c.args.context.room) c.in_err-member.field-0.0 c.loop-kind.members c.args.kinds.now c.loop-kind.kind-index c.kind-item.result c.loop-kind.next.at c.loop-kind.next.rest.now _ c.loop-kind-test.true c.kind-item.is c.in_err-member.ensures c.loop-kind.invariant)

pub members_at-loop-kind-preserved : goal.members_at-loop-kind-preserved
members_at-loop-kind-preserved t c =
    rw c.in_ok-push.ensures.ok (members_go_on (value_at c.args.context.endian c.args.context.room) c.loop-kind.members c.args.kinds.now c.loop-kind.kind-index c.kind-item.result c.loop-kind.next.at c.loop-kind.next.rest.now c.in_ok-member.member c.in_ok-member.after.at c.in_ok-member.after.rest.now _ c.loop-kind-test.true c.kind-item.is c.in_ok-member.ensures c.loop-kind.invariant)

pub members_at-returns : goal.members_at-returns
members_at-returns t c =
    members_done (value_at c.args.context.endian c.args.context.room) c.loop-kind.members c.args.kinds.now c.loop-kind.kind-index c.loop-kind.next.at c.loop-kind.next.rest.now _ c.loop-kind-test.false c.loop-kind.invariant

pub open_value_at-array_value_at-requires : goal.open_value_at-array_value_at-requires
open_value_at-array_value_at-requires t c =
    (search rules, (c.requires, rw c.get-in-None.ensures (element_is c.in-Array.inner (rw c.in-Array.is at c.requires))))

pub open_value_at-returns-in-Some : goal.open_value_at-returns-in-Some
open_value_at-returns-in-Some t c =
    rw (fixed_opens c.args.context.endian c.args.context.room c.args.kind.now c.in-Array.inner c.in-Some.basic c.args.from.at c.args.from.rest.now c.in-Array.is (subst (λ (k : Kind). IsFixed k c.in-Some.basic) c.get.ensures c.in-Some.ensures))
    c.packed_at.ensures

pub open_value_at-returns-in-None : goal.open_value_at-returns-in-None
open_value_at-returns-in-None t c =
    rw (other_opens c.args.context.endian c.args.context.room c.args.kind.now c.in-Array.inner c.args.from.at c.args.from.rest.now c.in-Array.is (subst IsOther c.get.ensures c.in-None.ensures))
    (rw c.get-in-None.ensures at c.array_value_at.ensures)

pub open_value_at-array_value_at-requires-in-Dict :
    goal.open_value_at-array_value_at-requires-in-Dict
open_value_at-array_value_at-requires-in-Dict t c =
    (search rules, (c.requires, rw c.get-in-Dict.ensures (value_is c.in-Dict.key c.in-Dict.inner (rw c.in-Dict.is at c.requires))))

pub open_value_at-struct_at-requires : goal.open_value_at-struct_at-requires
open_value_at-struct_at-requires t c =
    (search rules, rw c.as_slice.ensures (members_is c.in-Struct.members (rw c.in-Struct.is at c.requires)))
