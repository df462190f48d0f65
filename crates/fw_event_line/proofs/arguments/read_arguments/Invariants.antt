-- The arguments so far, and then those that are left, are all of them.
use Rattle.std.proofs.Common.{◌≡◌, drop}
use Rattle.fw_event_line.specs.Arguments.{arguments_in, behind}
use Rattle.fw_event_line.proofs.arguments.read_arguments.Given as goal

abbrev pub invariant-loop-place : goal.invariant-loop-place
invariant-loop-place l = behind l.arguments (arguments_in l.owner (drop l.place l.letters) l.words) ≡ behind l.fn.front (arguments_in l.owner l.letters l.fn.words)
