-- Words of which no two are left.
use Rattle.std.proofs.Common.{◌≡◌, ◌<◌, ℕ, List, [], ◌∷◌, map, length, false, is_some, refl, arith}
use Rattle.std.specs.Prelude.{◌==◌}
use Rattle.fw_command.specs.Options.{are_options, given}
use Rattle.fw_command.specs.declared.verb.Verb.{Verb}

-- among them no option is given
pub none_given : {X : Type 0} (text : X → List ℕ) (name : List ℕ) (left : List X) → length left < 2 → false ≡ is_some (given name (map text left))
unfolding given
none_given text name [] few = refl
none_given text name (word ∷ []) few = refl
none_given text name (word ∷ next ∷ words) few = absurd (omega arith)

-- they are options exactly where none is left
pub only_none : {X : Type 0} (text : X → List ℕ) (verb : Verb) (left : List X) → length left < 2 → (length left == 0) ≡ are_options verb (map text left)
unfolding are_options
only_none text verb [] few = refl
only_none text verb (word ∷ []) few = refl
only_none text verb (word ∷ next ∷ words) few = absurd (omega arith)
