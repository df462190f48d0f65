-- Values that are lent.
use Rattle.std.specs.Prelude.{ℕ, ◌+◌, nat_lt, List, length, take, Option, Result, Ok, Err, if◌then◌else◌}
use Rattle.std.specs.Option.{option_map}
use Rattle.dbus_signature.specs.Reading.{Read, ◌>>=◌}
use Rattle.dbus_wire.specs.Arrays.{head_at}
use Rattle.dbus_wire.specs.declared.value.Endian.{Endian}
use Rattle.dbus_wire.specs.declared.value.Packed.TheVariants as packed
use Rattle.dbus_wire.specs.declared.value.Value.{Value}
use Rattle.dbus_wire.specs.declared.value.Value.TheVariants as value
use Rattle.dbus_held.specs.declared.lent.Lent.{Lent}
use Rattle.dbus_held.specs.declared.lent.Lent.TheVariants as lent

abbrev pub lent_value : Lent → Value
lent_value (lent.Text text) = value.Str text.now
lent_value (lent.Path path) = value.Path path.now
lent_value (lent.Bytes bytes) = value.Packed (packed.Bytes bytes.now)
lent_value (lent.Own v) = v

abbrev pub shown : Option Lent → Option Value
shown found = option_map lent_value found

-- a value without what comes behind it
abbrev pub value_alone : Read Value → Result Value ℕ
value_alone read = read >>= λ x. Ok x.0

-- the bytes of an array of bytes; or the place of the fault
unfoldable pub bytes_of : Endian → ℕ → List ℕ → Result (List ℕ) ℕ
bytes_of endian at text = do
  head ← head_at endian 1 at text
  if nat_lt (length head.2) head.0 then Err (head.1 + length (take head.0 head.2)) else Ok (take head.0 head.2)

-- the offset behind values
abbrev pub offset_of : Read (Unit {0}) → Result ℕ ℕ
offset_of read = read >>= λ x. Ok x.1
