-- Header fields as they stand in the bytes, one behind the other (D-Bus Specification, "Message Format" and "Header
-- Fields"). That these are the fields of the array of structs as which "Message Format" has them is a law:
-- `fields_one_by_one` in proofs/FieldReadingLaws.antt.
use Rattle.std.specs.Prelude.{ℕ, zero, suc, nat_lt, List, [], ◌∷◌, length, take, drop, Option, Some, None, option_and_then, Ok, if◌then◌else◌}
use Rattle.std.specs.Option.{option_map}
use Rattle.std.specs.Result.{result_ok}
use Rattle.std.specs.Int.{w32}
use Rattle.dbus_signature.specs.declared.cursor.Cursor.{Cursor}
use Rattle.dbus_signature.specs.declared.kind.Basic.{Basic}
use Rattle.dbus_signature.specs.declared.kind.Basic.TheVariants as basic
use Rattle.dbus_signature.specs.declared.kind.Kind.{Kind}
use Rattle.dbus_signature.specs.declared.kind.Kind.TheViews.{out-Kind}
use Rattle.dbus_signature.specs.declared.kind.Kind.TheOpen.{Kind-F}
use Rattle.dbus_signature.specs.Reading.{Reader, ◌>>=◌}
use Rattle.dbus_signature.specs.Signatures.{IsSignature}
use Rattle.dbus_wire.specs.declared.value.Endian.{Endian}
use Rattle.dbus_wire.specs.Arrays.{head_at}
use Rattle.dbus_wire.specs.Fields.{aligned_at, byte_at, padding_at, signature_at, text_at}
use Rattle.dbus_wire.specs.Texts.{is_text}
use Rattle.dbus_wire.specs.Values.{as_value, value_at}
use Rattle.dbus_held.specs.Ends.{is_path_text, type_end}
use Rattle.dbus_msg.specs.declared.field_reading.Inner.{Inner}
use Rattle.dbus_msg.specs.declared.field_reading.Inner.TheVariants as inner
use Rattle.dbus_msg.specs.declared.field_reading.Told.{Told}
use Rattle.dbus_msg.specs.declared.field_reading.Told.TheVariants as told
use Rattle.dbus_msg.specs.declared.known.Known.{Known}
use Rattle.dbus_msg.specs.Known.{a_number, a_path, a_signature, a_text, another, Content, content_in, no_fields, with_field}

-- ---- what contracts see of a field that is lent

abbrev pub seen_inner : Inner → Content
seen_inner (inner.Path path) = a_path path.now
seen_inner (inner.Text text) = a_text text.now
seen_inner (inner.Signature codes) = a_signature codes.now
seen_inner (inner.Number n) = a_number n
seen_inner inner.Other = another

-- codes are those of a signature
abbrev pub IsSound : Inner → Type 0
IsSound (inner.Path path) = Unit {0}
IsSound (inner.Text text) = Unit {0}
IsSound (inner.Signature codes) = IsSignature codes.now
IsSound (inner.Number n) = Unit {0}
IsSound inner.Other = Unit {0}

abbrev pub seen_content : Inner × Cursor → Content × ℕ × List ℕ
seen_content found = (seen_inner found.0, found.1.at, found.1.rest.now)

abbrev pub seen_field : ℕ × Inner × Cursor → (ℕ × Content) × ℕ × List ℕ
seen_field found = ((found.0, seen_inner found.1), found.2.at, found.2.rest.now)

-- ---- reading

-- How many containers may be opened in a header field's variant: it stands in a struct, and this in the array.
abbrev pub room_within : ℕ
room_within = 61

-- the types that known fields have
abbrev pub told_of : Basic → Option Told
told_of basic.Path = Some told.Path
told_of basic.Str = Some told.Text
told_of basic.Sig = Some told.Signature
told_of basic.U32 = Some told.Number
told_of other = None

abbrev pub told_by : Kind-F Kind → Option Told
told_by (Kind-F.Basic basic) = told_of basic
told_by layer = None

abbrev pub told_in : Kind → Option Told
told_in kind = told_by (out-Kind kind)

-- a value of such a type
abbrev pub told_at : Endian → Told → Reader Content
told_at endian told.Path at text = as_value a_path (text_at is_path_text endian at text)
told_at endian told.Text at text = as_value a_text (text_at is_text endian at text)
told_at endian told.Signature at text = as_value a_signature (signature_at at text)
told_at endian told.Number at text = as_value a_number (aligned_at endian w32 at text)

-- what a value of a type is, as far as header fields may hold it
unfoldable pub content_at : Endian → Kind → Reader Content
content_at endian kind at text = as_value content_in (value_at endian room_within kind at text)

-- The code of a header field, the signature of its variant and what that holds.
unfoldable pub field_at : Endian → Reader (ℕ × Content)
field_at endian at text = do
  start ← padding_at 8 at text
  code ← byte_at start.1 start.2
  kind ← type_end code.1 code.2
  content ← content_at endian kind.0 kind.1 kind.2
  Ok ((code.0, content.0), content.1, content.2)

-- the known fields with that which begins here, and what stands behind it
abbrev pub taken : Known → (ℕ × Content) × ℕ × List ℕ → Option (Known × ℕ × List ℕ)
taken known field = option_map (λ next. (next, field.1, field.2)) (with_field field.0.0 field.0.1 known)

unfoldable pub take_field : Endian → Known → ℕ → List ℕ → Option (Known × ℕ × List ℕ)
take_field endian known at text = option_and_then (taken known) (result_ok (field_at endian at text))

-- The known fields with all up to the end of the text. The number is at least that of the bytes left.
unfoldable pub take_fields : Endian → ℕ → Known → ℕ → List ℕ → Option Known
take_fields endian n known at [] = Some known
take_fields endian zero known at (c ∷ text) = None
take_fields endian (suc n) known at (c ∷ text) = option_and_then (λ found. take_fields endian n found.0 found.1 found.2) (take_field endian known at (c ∷ text))

-- the known fields in so many bytes
abbrev pub fields_within : Endian → ℕ × ℕ × List ℕ → Option Known
fields_within endian head =
    if nat_lt (length head.2) head.0 then None else take_fields endian (length (take head.0 head.2)) no_fields head.1 (take head.0 head.2)

-- those of a message, whose length stands before them
abbrev pub fields_one_by_one : Endian → ℕ → List ℕ → Option Known
fields_one_by_one endian at bytes = option_and_then (fields_within endian) (result_ok (head_at endian 8 at (drop at bytes)))
