-- Texts joined by blanks (the spelling is this project's own).
use Rattle.std.specs.Prelude.{ℕ, List, [], ◌∷◌, ◌++◌}
use Rattle.std.specs.List.{flat_map}

-- texts, each behind a blank
abbrev pub others_text : {T : Type 0} → (text : T → List ℕ) → List T → List ℕ
others_text text others = flat_map (λ other. 32 ∷ text other) others

unfoldable pub joined : {T : Type 0} → (text : T → List ℕ) → List T → List ℕ
joined text [] = []
joined text (first ∷ others) = text first ++ others_text text others
