-- Values, read by their type from left to right, with the place of the first fault (D-Bus Specification,
-- "Marshaling (Wire Format)", and for the limits "Valid Signatures" and "Message Format").
use Rattle.std.specs.Prelude.{ℕ, zero, suc, ◌+◌, nat_lt, List, [], ◌∷◌, length, take, drop, Result, Ok, Err, if◌then◌else◌}
use Rattle.std.specs.Int.{w16, w32, w64, cast_signed}
use Rattle.dbus_signature.specs.declared.kind.Basic.{Basic}
use Rattle.dbus_signature.specs.declared.kind.Basic.TheVariants as basic
use Rattle.dbus_signature.specs.declared.kind.Kind.{Kind}
use Rattle.dbus_signature.specs.declared.kind.Kind.TheViews.{out-Kind}
use Rattle.dbus_signature.specs.declared.kind.Kind.TheOpen.{Kind-F}
use Rattle.dbus_signature.specs.Reading.{Read, Reader, ◌>>=◌}
use Rattle.dbus_signature.specs.Types.{codes}
use Rattle.dbus_wire.specs.declared.value.Endian.{Endian}
use Rattle.dbus_wire.specs.declared.value.Value.{Value}
use Rattle.dbus_wire.specs.declared.value.Value.TheVariants as value
use Rattle.dbus_wire.specs.declared.strings.StringKind.TheVariants as string
use Rattle.dbus_wire.specs.Alignment.{alignment}
use Rattle.dbus_wire.specs.Packing.{array_of}
use Rattle.dbus_wire.specs.Texts.{is_string}
use Rattle.dbus_wire.specs.Fields.{aligned_at, bool_at, byte_at, number_at, padding_at, signature_at, text_at, type_at}

-- how many bytes an array may have
abbrev pub max_array : ℕ
max_array = 67108864

-- how many containers may be open at a place: arrays, structs, entries of dicts and variants
abbrev pub max_open : ℕ
max_open = 64

-- what is made of what is read
abbrev pub as_value : {A B : Type 0} → (A → B) → Read A → Read B
as_value make read = read >>= λ x. Ok (make x.0, x.1, x.2)

-- a value that holds no others
abbrev pub basic_value_at : Endian → Basic → Reader Value
basic_value_at endian basic.Byte at text = as_value value.Byte (byte_at at text)
basic_value_at endian basic.Bool at text = as_value value.Bool (bool_at endian at text)
basic_value_at endian basic.I16 at text = as_value (λ n. value.I16 (cast_signed w16 n)) (aligned_at endian w16 at text)
basic_value_at endian basic.U16 at text = as_value value.U16 (aligned_at endian w16 at text)
basic_value_at endian basic.I32 at text = as_value (λ n. value.I32 (cast_signed w32 n)) (aligned_at endian w32 at text)
basic_value_at endian basic.U32 at text = as_value value.U32 (aligned_at endian w32 at text)
basic_value_at endian basic.I64 at text = as_value (λ n. value.I64 (cast_signed w64 n)) (aligned_at endian w64 at text)
basic_value_at endian basic.U64 at text = as_value value.U64 (aligned_at endian w64 at text)
basic_value_at endian basic.Double at text = as_value value.Double (aligned_at endian w64 at text)
basic_value_at endian basic.Str at text = as_value value.Str (text_at (is_string string.Text) endian at text)
basic_value_at endian basic.Path at text = as_value value.Path (text_at (is_string string.Path) endian at text)
basic_value_at endian basic.Sig at text = as_value value.Sig (signature_at at text)
basic_value_at endian basic.Fd at text = as_value value.Fd (aligned_at endian w32 at text)

-- Items in a row, up to the end of the text. The number is at least that of the bytes left.
unfoldable pub items_at : {A : Type 0} → Reader A → ℕ → Reader (List A)
items_at item n at [] = Ok ([], at, [])
items_at item zero at (c ∷ text) = Err at
items_at item (suc n) at (c ∷ text) = do
  first ← item at (c ∷ text)
  others ← items_at item n first.1 first.2
  Ok (first.0 ∷ others.0, others.1, others.2)

-- The items in so many bytes. Where fewer are there, the end is at fault, behind the items before it.
abbrev pub whole_items : {A : Type 0} → ℕ → ℕ → List ℕ → A × ℕ × List ℕ → Read A
whole_items n end text items = if nat_lt (length text) n then Err end else Ok (items.0, end, drop n text)

unfoldable pub contents_at : {A : Type 0} → Reader A → ℕ → Reader (List A)
contents_at item n at text = do
  items ← items_at item (length (take n text)) at (take n text)
  whole_items n (at + length (take n text)) text items

-- The length in bytes, the padding of the first item, which the length leaves out, and the items.
abbrev pub within_limit : ℕ → ℕ × ℕ × List ℕ → Read ℕ
within_limit place n = if nat_lt max_array n.0 then Err place else Ok n

unfoldable pub array_at : {A : Type 0} → Endian → ℕ → Reader A → Reader (List A)
array_at endian align item at text = do
  start ← padding_at 4 at text
  number ← number_at endian w32 start.1 start.2
  n ← within_limit start.1 number
  first ← padding_at align n.1 n.2
  contents_at item n.0 first.1 first.2

-- members one after the other, each of its type
unfoldable pub members_at : (Kind → Reader Value) → List Kind → Reader (List Value)
members_at read [] at text = Ok ([], at, text)
members_at read (kind ∷ kinds) at text = do
  first ← read kind at text
  others ← members_at read kinds first.1 first.2
  Ok (first.0 ∷ others.0, others.1, others.2)

unfoldable pub struct_at : (Kind → Reader Value) → List Kind → Reader Value
struct_at read kinds at text = do
  start ← padding_at 8 at text
  members ← members_at read kinds start.1 start.2
  Ok (value.Struct members.0, members.1, members.2)

-- the type's signature, and the value
unfoldable pub variant_at : (Kind → Reader Value) → Reader Value
variant_at read at text = do
  kind ← type_at at text
  inner ← read kind.0.0 kind.1 kind.2
  Ok (value.Variant kind.0.1 inner.0, inner.1, inner.2)

-- a key and a value, aligned as a struct
unfoldable pub pair_at : Endian → Basic → Reader Value → Reader Value
pair_at endian key read at text = do
  start ← padding_at 8 at text
  first ← basic_value_at endian key start.1 start.2
  second ← read first.1 first.2
  Ok (value.Pair first.0 second.0, second.1, second.2)

-- A value of a type, by its one level: what stands in it is read by these readers.
abbrev pub value_by : Endian → (Kind → Reader Value) → (Basic → Kind → Reader Value) → Kind → Kind-F Kind → Reader Value
value_by endian read entry kind (Kind-F.Basic basic) at text = basic_value_at endian basic at text
value_by endian read entry kind Kind-F.Variant at text = variant_at read at text
value_by endian read entry kind (Kind-F.Array element) at text = as_value (array_of element) (array_at endian (alignment element) (read element) at text)
value_by endian read entry kind (Kind-F.Dict key inner) at text = as_value (value.Array (codes kind)) (array_at endian 8 (entry key inner) at text)
value_by endian read entry kind (Kind-F.Struct members) at text = struct_at read members at text

-- A value where no container may be opened. One is at fault where it would begin, before its padding.
abbrev pub closed_value_by : Endian → Kind-F Kind → Reader Value
closed_value_by endian (Kind-F.Basic basic) at text = basic_value_at endian basic at text
closed_value_by endian layer at text = Err at

unfoldable mutual
  -- a value of a type, where so many containers may still be opened
  pub value_at : Endian → ℕ → Kind → Reader Value
  value_at endian zero kind = closed_value_by endian (out-Kind kind)
  value_at endian (suc room) kind = value_by endian (value_at endian room) (entry_at endian room) kind (out-Kind kind)

  -- an entry of a dict, which is a container too
  pub entry_at : Endian → ℕ → Basic → Kind → Reader Value
  entry_at endian zero key kind at text = Err at
  entry_at endian (suc room) key kind at text = pair_at endian key (value_at endian room kind) at text

-- a value where one container was opened, and so many may be
abbrev pub open_value_at : Endian → ℕ → Kind → Reader Value
open_value_at endian room kind = value_by endian (value_at endian room) (entry_at endian room) kind (out-Kind kind)

abbrev pub closed_value_at : Endian → Kind → Reader Value
closed_value_at endian kind = closed_value_by endian (out-Kind kind)

-- The value at an offset in bytes, and the offset after it; or the place of the fault.
abbrev pub value_of : Endian → Kind → ℕ → List ℕ → Result (Value × ℕ) ℕ
value_of endian kind offset bytes = value_at endian max_open kind offset (drop offset bytes) >>= λ found. Ok (found.0, found.1)

-- The values of types one after the other at an offset in bytes, and the offset after them; or the place of the fault.
abbrev pub values_of : Endian → List Kind → ℕ → List ℕ → Result (List Value × ℕ) ℕ
values_of endian kinds offset bytes = members_at (value_at endian max_open) kinds offset (drop offset bytes) >>= λ found. Ok (found.0, found.1)
