-- The places so far are those of the marks so far.
use Rattle.fw_closure.proofs.Places.{AreBelow}
use Rattle.fw_closure.proofs.reached.places_of.Given as goal

abbrev pub invariant-loop-place : goal.invariant-loop-place
invariant-loop-place l = AreBelow l.marks l.place l.places.items
