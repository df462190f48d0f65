-- The parts of reading an array: where its elements begin, and elements of a fixed basic type as the value that holds them.
use Rattle.std.specs.Prelude.{◌≡◌, ℕ, ◌+◌, Bool, true, false, List, length, take, Option, Some, None, Ok}
use Rattle.std.specs.Int.{w32}
use Rattle.dbus_signature.specs.declared.kind.Basic.{Basic}
use Rattle.dbus_signature.specs.declared.kind.Basic.TheVariants as basic
use Rattle.dbus_signature.specs.declared.kind.Kind.{Kind}
use Rattle.dbus_signature.specs.declared.kind.Kind.TheVariants.{Basic as Plain}
use Rattle.dbus_signature.specs.declared.kind.Kind.TheViews.{out-Kind}
use Rattle.dbus_signature.specs.Reading.{Read, Reader, ◌>>=◌}
use Rattle.dbus_wire.specs.declared.value.Endian.{Endian}
use Rattle.dbus_wire.specs.declared.value.Value.{Value}
use Rattle.dbus_wire.specs.Alignment.{alignment}
use Rattle.dbus_wire.specs.Fields.{number_at, padding_at}
use Rattle.dbus_wire.specs.Packing.{array_of, packing_of}
use Rattle.dbus_wire.specs.Values.{array_at, as_value, basic_value_at, contents_at, items_at, whole_items, within_limit}

-- how many bytes an array has, and where they begin
unfoldable pub head_at : Endian → ℕ → Reader ℕ
head_at endian align at text = do
  start ← padding_at 4 at text
  number ← number_at endian w32 start.1 start.2
  n ← within_limit start.1 number
  first ← padding_at align n.1 n.2
  Ok (n.0, first.1, first.2)

-- whether all values of a type have one length
abbrev pub is_fixed : Basic → Bool
is_fixed basic.Str = false
is_fixed basic.Path = false
is_fixed basic.Sig = false
is_fixed basic.Byte = true
is_fixed basic.Bool = true
is_fixed basic.I16 = true
is_fixed basic.U16 = true
is_fixed basic.I32 = true
is_fixed basic.U32 = true
is_fixed basic.I64 = true
is_fixed basic.U64 = true
is_fixed basic.Double = true
is_fixed basic.Fd = true

-- no fixed basic type
abbrev pub IsOther : Kind → Type 0
IsOther kind = packing_of (out-Kind kind) ≡ None

-- this fixed basic type
pub record IsFixed (kind : Kind) (basic : Basic) : Type 0 where
  pub plain : kind ≡ Plain basic
  pub fixed : is_fixed basic ≡ true

-- elements of a basic type up to the end of the text
unfoldable pub row_at : Endian → Basic → Reader Value
row_at endian basic at text = as_value (array_of (Plain basic)) (items_at (basic_value_at endian basic) (length text) at text)

-- elements of a basic type in so many bytes
unfoldable pub row_in : Endian → Basic → ℕ → Reader Value
row_in endian basic n at text = do
  row ← row_at endian basic at (take n text)
  whole_items n (at + length (take n text)) text row

-- an array of a basic type
unfoldable pub basic_array_at : Endian → Basic → Reader Value
basic_array_at endian basic at text = as_value (array_of (Plain basic)) (array_at endian (alignment (Plain basic)) (basic_value_at endian basic) at text)
