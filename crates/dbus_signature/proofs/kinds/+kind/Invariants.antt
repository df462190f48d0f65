use Rattle.std.proofs.Common.{length, ◌+◌, ◌*◌}
use Rattle.dbus_signature.specs.Signatures.{kind_at, members_at}
use Rattle.dbus_signature.proofs.Loops.{GoesOn, with_members}
use Rattle.dbus_signature.proofs.kinds.+kind.Given as goal

abbrev pub decreases-array_at : goal.decreases-array_at
decreases-array_at l = 4 * (l.arrays + l.structs) + 2

abbrev pub decreases-dict_at : goal.decreases-dict_at
decreases-dict_at l = 4 * (l.arrays + l.structs) + 1

abbrev pub decreases-kind_at : goal.decreases-kind_at
decreases-kind_at l = 4 * (l.arrays + l.structs)

abbrev pub decreases-members_at : goal.decreases-members_at
decreases-members_at l = 4 * (l.arrays + l.structs) + 1

abbrev pub decreases-plain_array_at : goal.decreases-plain_array_at
decreases-plain_array_at l = 4 * (l.arrays + l.structs) + 1

abbrev pub decreases-struct_at : goal.decreases-struct_at
decreases-struct_at l = 4 * (l.arrays + l.structs) + 2

-- what was read, and then what is still read, is all; and no more bytes are left than at first
abbrev pub invariant-members_at-loop-members : goal.invariant-members_at-loop-members
invariant-members_at-loop-members l =
    GoesOn (λ n. with_members l.members (members_at (kind_at l.arrays l.structs) n l.next.at l.next.rest.now))
    (members_at (kind_at l.arrays l.structs) (length l.fn.from.rest.now) l.fn.from.at l.fn.from.rest.now)
    (length l.next.rest.now) (length l.fn.from.rest.now)

abbrev pub decreases-members_at-loop-members : goal.decreases-members_at-loop-members
decreases-members_at-loop-members l = length l.next.rest.now
