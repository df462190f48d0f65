-- What is marked is reached, and waits or was followed. Each service followed is one less of the work.
use Rattle.std.proofs.Common.{◌+◌, length}
use Rattle.fw_closure.proofs.Walked.{Walked}
use Rattle.fw_closure.specs.Marks.{unmarked}
use Rattle.fw_closure.proofs.reached.closure.Given as goal

abbrev pub invariant-loop-place : goal.invariant-loop-place
invariant-loop-place l = Walked l.services l.name l.reached.items l.waiting.items

abbrev pub decreases-loop-place : goal.decreases-loop-place
decreases-loop-place l = unmarked l.reached.items + length l.waiting.items
