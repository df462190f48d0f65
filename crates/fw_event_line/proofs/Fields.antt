-- One member more of an object.
use Rattle.std.proofs.Common.{◌≡◌, ℕ, List, [], ◌∷◌, ◌++◌, Option, None, Some, ap, subst, append_assoc, refl}
use Rattle.fw_calls.specs.declared.dict.DictField.{DictField}
use Rattle.fw_dicts.specs.Keys.{shape_of}
use Rattle.fw_dicts.specs.declared.shape.Owner.{Owner}
use Rattle.fw_event_line.specs.Dicts.{field_of, fields_in}
use Rattle.fw_text.specs.Steps.{◌>>=◌}
use Rattle.serde_json.specs.Data.{Data, Members, member}

abbrev Fields : Type 0
Fields = List (List ℕ × DictField)

-- what was read, and what a first field and those that are left make of it
pushed : (fields : Fields) (one : List ℕ × DictField) (rest : Option Fields)
    → (rest >>= (λ rest. Some ((fields ++ one ∷ []) ++ rest))) ≡ ((rest >>= (λ rest. Some (one ∷ rest))) >>= (λ rest. Some (fields ++ rest)))
pushed fields one None = refl
pushed fields one (Some rest) = ap Some (append_assoc fields (one ∷ []) rest)

pub one_more : (owner : Owner) (key : List ℕ) (value : Data) (others : Members) (fields : Fields) (field : DictField) → Some field ≡ field_of (shape_of owner key) value
    → (fields_in owner others >>= (λ rest. Some ((fields ++ (key, field) ∷ []) ++ rest))) ≡ (fields_in owner (member key value others) >>= (λ rest. Some (fields ++ rest)))
one_more owner key value others fields field read =
    subst (λ (found : Option DictField). (fields_in owner others >>= (λ rest. Some ((fields ++ (key, field) ∷ []) ++ rest)))
    ≡ ((found >>= (λ field. fields_in owner others >>= (λ rest. Some ((key, field) ∷ rest)))) >>= (λ rest. Some (fields ++ rest)))) read (pushed fields (key, field) (fields_in owner others))
