-- What is left decides as all the words do.
use Rattle.std.proofs.Common.{◌≡◌, is_some, map, length}
use Rattle.std.specs.String.{string_bytes}
use Rattle.fw_command.specs.Options.{given}
use Rattle.fw_command.proofs.options.is_given.Given as goal

abbrev pub invariant-loop-left : goal.invariant-loop-left
invariant-loop-left l = is_some (given l.name (map string_bytes l.left)) ≡ is_some (given l.name (map string_bytes l.words))

abbrev pub decreases-loop-left : goal.decreases-loop-left
decreases-loop-left l = length l.left
