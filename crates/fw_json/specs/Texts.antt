-- Lists of texts in JSON (RFC 8259, sections 5 and 7): a text says one exactly where it is an array of texts.
use Rattle.std.specs.Prelude.{ℕ, List, [], ◌∷◌, Option, Some}
use Rattle.fw_text.specs.Steps.{◌>>=◌}
use Rattle.serde_json.specs.Data.{Data, Items, item, no_items}
use Rattle.serde_json.specs.Find.{as_array, as_str}
use Rattle.serde_json.specs.Read.{read}

-- the texts that items are, where each of them is a text
abbrev pub texts_in : Items → Option (List (List ℕ))
texts_in no_items = Some []
texts_in (item first others) = do
  text ← as_str first
  texts ← texts_in others
  Some (text ∷ texts)

-- the texts of a value that is an array of texts
abbrev pub texts_of : Data → Option (List (List ℕ))
texts_of value = as_array value >>= texts_in

-- the list of texts that a JSON text says
unfoldable pub json_texts : List ℕ → Option (List (List ℕ))
json_texts json = read json >>= texts_of
