-- Chains or sets in order of their names.
use Rattle.std.specs.Prelude.{◌≢◌, ℕ, List}
use Rattle.std.specs.Cmp.Lexicographic.{slice_cmp}
use Rattle.std.specs.List.{AllPairs}
use Rattle.std.specs.Ordering.{nat_cmp}
use Rattle.std.specs.declared.cmp.Ordering.TheVariants.{Greater}

-- none has a greater name than one behind it, in byte order
abbrev pub IsOrdered : {T : Type 0} → (T → List ℕ) → List T → Type 0
IsOrdered name_of items = AllPairs (λ one other. slice_cmp nat_cmp (name_of one) (name_of other) ≢ Greater) items
