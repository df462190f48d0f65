-- Lists as tests see them: what is in them, and one item that goes.
use Rattle.std.specs.Prelude.{Bool, if◌then◌else◌, List, [], ◌∷◌}
use Rattle.std.specs.List.{list_any}

-- whether an item is in a list
abbrev pub is_in : {A : Type 0} → (same : A → A → Bool) → A → List A → Bool
is_in same item items = list_any (λ listed. same listed item) items

-- a list whose first item of this kind went
abbrev pub without : {A : Type 0} → (same : A → A → Bool) → A → List A → List A
without same item [] = []
without same item (first ∷ others) = if same first item then others else first ∷ without same item others
