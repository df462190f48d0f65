use Rattle.std.proofs.Common.{◌≡◌, ◌+◌, ◌*◌, ◌-◌, drop, length}
use Rattle.dbus_held.specs.Elements.{element_end}
use Rattle.dbus_held.specs.Ends.{items_end, members_end, value_end}
use Rattle.dbus_held.proofs.ends.+value.Given as goal

abbrev pub decreases-value_end : goal.decreases-value_end
decreases-value_end l = 8 * l.context.room

abbrev pub decreases-open_value_end : goal.decreases-open_value_end
decreases-open_value_end l = 8 * l.context.room + 7

abbrev pub decreases-array_end : goal.decreases-array_end
decreases-array_end l = 8 * l.context.room + 5

abbrev pub decreases-contents_end : goal.decreases-contents_end
decreases-contents_end l = 8 * l.context.room + 4

abbrev pub decreases-items_end : goal.decreases-items_end
decreases-items_end l = 8 * l.context.room + 3

abbrev pub decreases-element_end : goal.decreases-element_end
decreases-element_end l = 8 * l.context.room + 2

abbrev pub decreases-struct_end : goal.decreases-struct_end
decreases-struct_end l = 8 * l.context.room + 2

abbrev pub decreases-members_end : goal.decreases-members_end
decreases-members_end l = 8 * l.context.room + 1

abbrev pub decreases-variant_end : goal.decreases-variant_end
decreases-variant_end l = 8 * l.context.room + 1

abbrev pub decreases-entry_end : goal.decreases-entry_end
decreases-entry_end l = 8 * l.context.room + 1

abbrev pub decreases-pair_end : goal.decreases-pair_end
decreases-pair_end l = 8 * l.context.room + 1

abbrev pub invariant-members_end-loop-kind : goal.invariant-members_end-loop-kind
invariant-members_end-loop-kind l =
    members_end (value_end l.context.endian l.context.room) (drop l.kind-index l.kinds) l.next.at l.next.rest.now
    ≡ members_end (value_end l.context.endian l.context.room) l.kinds l.fn.from.at l.fn.from.rest.now

abbrev pub invariant-items_end-loop : goal.invariant-items_end-loop
invariant-items_end-loop l =
    items_end (element_end l.context.endian l.context.room l.element) (length l.fn.from.rest.now - l.counter) l.next.at l.next.rest.now
    ≡ items_end (element_end l.context.endian l.context.room l.element) (length l.fn.from.rest.now) l.fn.from.at l.fn.from.rest.now
