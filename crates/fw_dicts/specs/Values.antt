-- The values of known keys, and what they make of a zone's and a policy's notes. Where a key is absent, its value stays.
use Rattle.std.specs.Prelude.{ℕ, ℤ, Bool, if◌then◌else◌, codes, fold, List, [], ◌∷◌, ◌++◌, Option, None, Some}
use Rattle.std.specs.Option.{unwrap_or}
use Rattle.std.specs.Str.{bytes_eq}
use Rattle.fw_answer.specs.Lists.{is_in}
use Rattle.fw_calls.specs.declared.dict.DictField.{DictField}
use Rattle.fw_calls.specs.declared.dict.DictField.TheVariants as value
use Rattle.fw_dicts.specs.Keys.{Fields, value_at}
use Rattle.fw_model.specs.declared.notes.Notes.{Notes}

abbrev pub text_of : Option DictField → Option (List ℕ)
text_of (Some (value.Text text)) = Some text
text_of other = None

abbrev pub flag_of : Option DictField → Option Bool
flag_of (Some (value.Bool flag)) = Some flag
flag_of other = None

abbrev pub number_of : Option DictField → Option ℤ
number_of (Some (value.Int number)) = Some number
number_of other = None

abbrev pub texts_of : Option DictField → Option (List (List ℕ))
texts_of (Some (value.Texts texts)) = Some texts
texts_of other = None

abbrev pub rows_of : Option DictField → Option (List (List (List ℕ)))
rows_of (Some (value.Rows rows)) = Some rows
rows_of other = None

unfoldable pub text_at : Fields → (key : List ℕ) → Option (List ℕ)
text_at fields key = text_of (value_at fields key)

unfoldable pub flag_at : Fields → (key : List ℕ) → Option Bool
flag_at fields key = flag_of (value_at fields key)

unfoldable pub number_at : Fields → (key : List ℕ) → Option ℤ
number_at fields key = number_of (value_at fields key)

unfoldable pub texts_at : Fields → (key : List ℕ) → Option (List (List ℕ))
texts_at fields key = texts_of (value_at fields key)

unfoldable pub rows_at : Fields → (key : List ℕ) → Option (List (List (List ℕ)))
rows_at fields key = rows_of (value_at fields key)

-- the notes of a zone or a policy
unfoldable pub notes_told : Fields → Notes → Notes
notes_told fields notes = record {
  version = unwrap_or (text_at fields (codes "version")) notes.version;
  short = unwrap_or (text_at fields (codes "short")) notes.short;
  description = unwrap_or (text_at fields (codes "description")) notes.description;
}

-- a name more, unless it is there
abbrev pub with_name : List (List ℕ) → List ℕ → List (List ℕ)
with_name names name = if is_in bytes_eq name names then names else names ++ name ∷ []

-- names, each once, at its first place
unfoldable pub each_once : List (List ℕ) → List (List ℕ)
each_once names = fold with_name [] names

abbrev pub names_or : (names : List (List ℕ)) → Option (List (List ℕ)) → List (List ℕ)
names_or names None = names
names_or names (Some others) = each_once others

-- the names under a key
unfoldable pub names_told : Fields → (key : List ℕ) → (names : List (List ℕ)) → List (List ℕ)
names_told fields key names = names_or names (texts_at fields key)
