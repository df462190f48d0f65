-- The zones so far are appended.
use Rattle.std.proofs.Common.{◌≡◌, ◌∷◌, ◌++◌, take}
use Rattle.std.specs.List.{flat_map}
use Rattle.std.specs.String.{string_bytes}
use Rattle.fw_told.specs.Lists.{active_text}
use Rattle.fw_told.proofs.lists.push_other_zones.Given as goal

abbrev pub invariant-loop-other : goal.invariant-loop-other
invariant-loop-other l = string_bytes l.out ≡ string_bytes l.fn.out ++ flat_map (λ other. 32 ∷ active_text other) (take l.other-index l.others)
