-- Where the value ends that stands at an offset in bytes.
use Rattle.std.specs.Prelude.{ℕ, List, Result, Ok}
use Rattle.dbus_signature.specs.Reading.{◌>>=◌}
use Rattle.dbus_signature.specs.declared.kind.Kind.{Kind}
use Rattle.dbus_wire.specs.declared.value.Endian.{Endian}
use Rattle.dbus_wire.specs.Values.{value_of}

-- the offset behind it, or the place of the fault
abbrev pub end_of : Endian → Kind → ℕ → List ℕ → Result ℕ ℕ
end_of endian kind offset bytes = value_of endian kind offset bytes >>= λ found. Ok found.1
