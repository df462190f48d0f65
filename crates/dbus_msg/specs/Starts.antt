-- The fixed part of a message before its lengths are known (D-Bus Specification, "Message Format").
use Rattle.std.specs.Prelude.{ℕ, List, [], ◌∷◌, ◌++◌}
use Rattle.std.specs.Int.{w32}
use Rattle.dbus_wire.specs.declared.value.Endian.TheVariants.{Little}
use Rattle.dbus_wire.specs.Spelling.{to_bytes}

-- with 0 in place of both lengths
abbrev pub start : (kind flags serial : ℕ) → List ℕ
start kind flags serial = 108 ∷ kind ∷ flags ∷ 1 ∷ 0 ∷ 0 ∷ 0 ∷ 0 ∷ (to_bytes Little w32 serial ++ 0 ∷ 0 ∷ 0 ∷ 0 ∷ [])
