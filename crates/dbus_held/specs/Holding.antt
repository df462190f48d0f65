-- Values that are held as the bytes that spell them.
use Rattle.std.specs.Prelude.{◌≡◌, ℕ, ◌-◌, ◌≤◌, List, [], length, take, drop, Result, Ok, Err}
use Rattle.dbus_signature.specs.declared.kind.Kind.{Kind}
use Rattle.dbus_signature.specs.Reading.{◌>>=◌}
use Rattle.dbus_signature.specs.Signatures.{all_kinds, IsSignature}
use Rattle.dbus_wire.specs.declared.value.Endian.{Endian}
use Rattle.dbus_wire.specs.declared.value.Value.{Value}
use Rattle.dbus_wire.specs.Values.{values_of}

-- The values of a signature's types that stand at an offset, and the offset after them.
abbrev pub held_read : Endian → List ℕ → ℕ → List ℕ → Result (List Value × ℕ) ℕ
held_read endian codes at bytes = all_kinds codes >>= λ kinds. values_of endian kinds at bytes

abbrev pub values_in : Result (List Value × ℕ) ℕ → List Value
values_in (Ok found) = found.0
values_in (Err place) = []

-- the values alone
unfoldable pub held_values : Endian → List ℕ → ℕ → List ℕ → List Value
held_values endian codes at bytes = values_in (held_read endian codes at bytes)

-- They stand there, and end where the bytes end.
pub record IsHeld (endian : Endian) (codes : List ℕ) (at : ℕ) (bytes : List ℕ) : Type 0 where
  pub signature : IsSignature codes
  pub within : at ≤ length bytes
  pub read : held_read endian codes at bytes ≡ Ok (held_values endian codes at bytes, length bytes)

-- The bytes that spell values of types at an offset; or the place of the fault.
abbrev pub text_of : Endian → List Kind → ℕ → List ℕ → Result (List ℕ) ℕ
text_of endian kinds offset bytes = values_of endian kinds offset bytes >>= λ found. Ok (take (found.1 - offset) (drop offset bytes))
