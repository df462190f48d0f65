-- Values, as a script's output has them (the spelling is this project's own): texts in quotes, lists in brackets, rows in parentheses.
use Rattle.std.specs.Prelude.{ℕ, Bool, if◌then◌else◌, codes, List, [], ◌∷◌, ◌++◌}
use Rattle.std.specs.Fmt.{signed_decimal}
use Rattle.fw_calls.specs.declared.dict.DictField.{DictField}
use Rattle.fw_calls.specs.declared.dict.DictField.TheVariants as field
use Rattle.fw_event_told.specs.Joined.{joined}
use Rattle.fw_quote.specs.Quoted.{quoted}

unfoldable pub flag_text : Bool → List ℕ
flag_text flag = if flag then codes "true" else codes "false"

-- a list of texts
unfoldable pub texts_text : List (List ℕ) → List ℕ
texts_text texts = 91 ∷ joined quoted texts ++ 93 ∷ []

-- a row of texts
unfoldable pub row_text : List (List ℕ) → List ℕ
row_text row = 40 ∷ joined quoted row ++ 41 ∷ []

-- a list of rows
unfoldable pub rows_text : List (List (List ℕ)) → List ℕ
rows_text rows = 91 ∷ joined row_text rows ++ 93 ∷ []

-- the value of a key of a dict; one that isn't known has no text
unfoldable pub field_text : DictField → List ℕ
field_text (field.Text text) = quoted text
field_text (field.Bool flag) = flag_text flag
field_text (field.Int number) = signed_decimal number
field_text (field.Texts texts) = texts_text texts
field_text (field.Rows rows) = rows_text rows
field_text field.Unknown = []
