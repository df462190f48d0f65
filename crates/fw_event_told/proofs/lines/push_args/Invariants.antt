-- The values so far are appended.
use Rattle.std.proofs.Common.{◌≡◌, ◌++◌, take}
use Rattle.std.specs.String.{string_bytes}
use Rattle.fw_event_told.specs.Lines.{args_text}
use Rattle.fw_event_told.proofs.lines.push_args.Given as goal

abbrev pub invariant-loop-arg : goal.invariant-loop-arg
invariant-loop-arg l = string_bytes l.out ≡ string_bytes l.fn.out ++ args_text (take l.arg-index l.args)
