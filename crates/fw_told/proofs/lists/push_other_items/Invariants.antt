-- The texts so far are appended.
use Rattle.std.proofs.Common.{◌≡◌, ◌∷◌, ◌++◌, take}
use Rattle.std.specs.List.{flat_map}
use Rattle.std.specs.String.{string_bytes}
use Rattle.fw_quote.specs.Quoted.{quoted}
use Rattle.fw_told.proofs.lists.push_other_items.Given as goal

abbrev pub invariant-loop-other : goal.invariant-loop-other
invariant-loop-other l = string_bytes l.out ≡ string_bytes l.fn.out ++ flat_map (λ other. 32 ∷ quoted other) (take l.other-index l.others)
