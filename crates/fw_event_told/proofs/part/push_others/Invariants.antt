-- The parts so far are appended.
use Rattle.std.proofs.Common.{◌≡◌, ◌∷◌, ◌++◌, take}
use Rattle.std.specs.List.{flat_map}
use Rattle.std.specs.String.{string_bytes}
use Rattle.fw_event_told.proofs.part.push_others.Given as goal

abbrev pub invariant-loop-other : goal.invariant-loop-other
invariant-loop-other g l = string_bytes l.out ≡ string_bytes l.fn.out ++ flat_map (λ other. 32 ∷ g.T.Part.text other) (take l.other-index l.others)
