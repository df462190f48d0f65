-- Of the services so far those of the names are marked.
use Rattle.std.proofs.Common.{◌≡◌, length}
use Rattle.fw_closure.specs.Marks.{HasMarked}
use Rattle.fw_closure.proofs.walk.mark.Given as goal

abbrev pub invariant-loop-place : goal.invariant-loop-place
invariant-loop-place l = record {
  length : length l.reached.items ≡ length l.services;
  marked : HasMarked l.services l.names l.place l.initial.reached.items l.reached.items l.initial.waiting.items l.waiting.items;
}
