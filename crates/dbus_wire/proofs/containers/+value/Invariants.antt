use Rattle.std.proofs.Common.{◌≡◌, ◌+◌, ◌*◌, ◌-◌, drop, length}
use Rattle.dbus_wire.specs.Elements.{element_at}
use Rattle.dbus_wire.specs.Values.{items_at, members_at, value_at}
use Rattle.dbus_wire.proofs.ValueLaws.{with_values}
use Rattle.dbus_wire.proofs.containers.+value.Given as goal

abbrev pub decreases-value_at : goal.decreases-value_at
decreases-value_at l = 8 * l.context.room

abbrev pub decreases-open_value_at : goal.decreases-open_value_at
decreases-open_value_at l = 8 * l.context.room + 7

abbrev pub decreases-array_value_at : goal.decreases-array_value_at
decreases-array_value_at l = 8 * l.context.room + 6

abbrev pub decreases-array_at : goal.decreases-array_at
decreases-array_at l = 8 * l.context.room + 5

abbrev pub decreases-contents_at : goal.decreases-contents_at
decreases-contents_at l = 8 * l.context.room + 4

abbrev pub decreases-items_at : goal.decreases-items_at
decreases-items_at l = 8 * l.context.room + 3

abbrev pub decreases-element_at : goal.decreases-element_at
decreases-element_at l = 8 * l.context.room + 2

abbrev pub decreases-struct_at : goal.decreases-struct_at
decreases-struct_at l = 8 * l.context.room + 2

abbrev pub decreases-members_at : goal.decreases-members_at
decreases-members_at l = 8 * l.context.room + 1

abbrev pub decreases-variant_at : goal.decreases-variant_at
decreases-variant_at l = 8 * l.context.room + 1

abbrev pub decreases-entry_at : goal.decreases-entry_at
decreases-entry_at l = 8 * l.context.room + 1

abbrev pub decreases-pair_at : goal.decreases-pair_at
decreases-pair_at l = 8 * l.context.room + 1

abbrev pub invariant-members_at-loop-kind : goal.invariant-members_at-loop-kind
invariant-members_at-loop-kind l =
    with_values l.members (members_at (value_at l.context.endian l.context.room) (drop l.kind-index l.kinds) l.next.at l.next.rest.now)
    ≡ members_at (value_at l.context.endian l.context.room) l.kinds l.fn.from.at l.fn.from.rest.now

abbrev pub invariant-items_at-loop : goal.invariant-items_at-loop
invariant-items_at-loop l =
    with_values l.items (items_at (element_at l.context.endian l.context.room l.element) (length l.fn.from.rest.now - l.counter) l.next.at l.next.rest.now)
    ≡ items_at (element_at l.context.endian l.context.room l.element) (length l.fn.from.rest.now) l.fn.from.at l.fn.from.rest.now
