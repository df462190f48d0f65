use Rattle.std.proofs.Common.{length}
use Rattle.dbus_signature.specs.Signatures.{kinds_at}
use Rattle.dbus_signature.proofs.Loops.{GoesOn, with_kinds}
use Rattle.dbus_signature.proofs.kinds.kinds_at.Given as goal

abbrev pub invariant-loop-next : goal.invariant-loop-next
invariant-loop-next l =
    GoesOn (λ n. with_kinds l.kinds (kinds_at n l.next.at l.next.rest.now))
    (kinds_at (length l.fn.from.rest.now) l.fn.from.at l.fn.from.rest.now)
    (length l.next.rest.now) (length l.fn.from.rest.now)

abbrev pub decreases-loop-next : goal.decreases-loop-next
decreases-loop-next l = length l.next.rest.now
