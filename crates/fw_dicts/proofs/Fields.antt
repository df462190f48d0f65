-- Keys that come one after another behind none are those keys.
use Rattle.std.proofs.Common.{◌≡◌, [], ◌∷◌, ◌++◌, append_assoc, rules, ◌∙◌}
use Rattle.fw_dicts.specs.Dicts.{with_field, with_fields}
use Rattle.fw_dicts.specs.Keys.{Fields}

pub behind : (fields rows : Fields) → with_fields fields rows ≡ fields ++ rows
unfolding with_field
behind fields [] = search rules
behind fields (row ∷ rows) = behind (fields ++ row ∷ []) rows ∙ append_assoc fields (row ∷ []) rows

pub all_fields : (rows : Fields) → with_fields [] rows ≡ rows
all_fields rows = behind [] rows
