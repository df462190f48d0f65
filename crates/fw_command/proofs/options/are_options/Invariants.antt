-- What is left decides as all the words do.
use Rattle.std.proofs.Common.{◌≡◌, map, length}
use Rattle.std.specs.String.{string_bytes}
use Rattle.fw_command.specs.Options.{are_options}
use Rattle.fw_command.proofs.options.are_options.Given as goal

abbrev pub invariant-loop-left : goal.invariant-loop-left
invariant-loop-left l = are_options l.verb (map string_bytes l.left) ≡ are_options l.verb (map string_bytes l.words)

abbrev pub decreases-loop-left : goal.decreases-loop-left
decreases-loop-left l = length l.left
