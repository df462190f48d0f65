-- Dicts of settings in JSON (RFC 8259, section 4): an object says one exactly where the value of each key that is known is of its type
-- (firewalld.dbus(5), `a{sv}`; the spelling is this project's own). Keys come in byte order.
use Rattle.std.specs.Prelude.{ℕ, List, [], ◌∷◌, Option, None, Some, Result, Ok, Err, if◌then◌else◌}
use Rattle.std.specs.Option.{option_map}
use Rattle.fw_text.specs.Steps.{◌>>=◌}
use Rattle.fw_calls.specs.declared.dict.Dict.{Dict}
use Rattle.fw_calls.specs.declared.dict.DictField.{DictField}
use Rattle.fw_calls.specs.declared.dict.DictField.TheVariants as field
use Rattle.fw_dicts.specs.Keys.{fits, shape_of}
use Rattle.fw_dicts.specs.declared.shape.Owner.{Owner}
use Rattle.fw_dicts.specs.declared.shape.Shape.{Shape}
use Rattle.fw_dicts.specs.declared.shape.Shape.TheVariants as shape
use Rattle.fw_load.specs.Fields.{list_in}
use Rattle.fw_load.specs.Values.{text, truth, whole}
use Rattle.serde_json.specs.Data.{Data, Members, member, no_members}
use Rattle.serde_json.specs.Find.{as_object}
use Rattle.serde_json.specs.Read.{read}

-- what was read, if it was
abbrev pub if_read : {T : Type 0} → Result T (List ℕ) → Option T
if_read (Ok item) = Some item
if_read (Err way) = None

-- a value of a shape, where it fits
abbrev pub if_fits : Shape → DictField → Option DictField
if_fits shape field = if fits shape field then Some field else None

-- what a value says that is to be of a shape
unfoldable pub value_of : Shape → Data → Option DictField
value_of shape.Text value = option_map field.Text (if_read (text value))
value_of shape.Flag value = option_map field.Bool (if_read (truth value))
value_of shape.Number value = option_map field.Int (if_read (whole value))
value_of shape.Texts value = option_map field.Texts (if_read (list_in text value))
value_of (shape.Rows width) value = do
  rows ← if_read (list_in (list_in text) value)
  if_fits (shape.Rows width) (field.Rows rows)

-- what stands under a key; the value of a key that isn't known may be anything
unfoldable pub field_of : Option Shape → Data → Option DictField
field_of None value = Some field.Unknown
field_of (Some shape) value = value_of shape value

abbrev pub fields_in : Owner → Members → Option (List (List ℕ × DictField))
fields_in owner no_members = Some []
fields_in owner (member key value others) = do
  field ← field_of (shape_of owner key) value
  rest ← fields_in owner others
  Some ((key, field) ∷ rest)

unfoldable pub dict_of : Owner → Data → Option Dict
dict_of owner value = do
  members ← as_object value
  fields ← fields_in owner members
  Some (record { fields = fields })

-- the dict that a JSON text says
unfoldable pub json_dict : Owner → List ℕ → Option Dict
json_dict owner json = read json >>= dict_of owner
