-- The type of a value (D-Bus Specification, "Type System", its table of type codes).
use Rattle.std.specs.Prelude.{ℕ, List, [], ◌∷◌, ◌++◌, map}
use Rattle.dbus_signature.specs.Types.{joined}
use Rattle.dbus_wire.specs.Packing.{packed_codes}
use Rattle.dbus_wire.specs.declared.value.Value.{Value}
use Rattle.dbus_wire.specs.declared.value.Value.TheOpen.{Value-F}
use Rattle.dbus_wire.specs.declared.value.Value.TheFolds.{fold-Value}

-- One level of a value: the letter of a basic type, of an array `a` and the letter of its packed elements or its own signature, `(`, the members, `)` for a struct, `{`, the
-- key, the value, `}` for an entry, and `v` for a variant.
abbrev pub type_step : Value-F (List ℕ) → List ℕ
type_step (Value-F.Byte n) = 121 ∷ []
type_step (Value-F.Bool truth) = 98 ∷ []
type_step (Value-F.I16 n) = 110 ∷ []
type_step (Value-F.U16 n) = 113 ∷ []
type_step (Value-F.I32 n) = 105 ∷ []
type_step (Value-F.U32 n) = 117 ∷ []
type_step (Value-F.I64 n) = 120 ∷ []
type_step (Value-F.U64 n) = 116 ∷ []
type_step (Value-F.Double n) = 100 ∷ []
type_step (Value-F.Str text) = 115 ∷ []
type_step (Value-F.Path text) = 111 ∷ []
type_step (Value-F.Sig codes) = 103 ∷ []
type_step (Value-F.Fd n) = 104 ∷ []
type_step (Value-F.Packed elements) = packed_codes elements
type_step (Value-F.Array codes items) = codes
type_step (Value-F.Struct members) = 40 ∷ joined members ++ 41 ∷ []
type_step (Value-F.Pair key inner) = 123 ∷ key ++ (inner ++ 125 ∷ [])
type_step (Value-F.Variant codes inner) = 118 ∷ []

-- the spelling of a value's type
abbrev pub type_codes : Value → List ℕ
type_codes = fold-Value (List ℕ) type_step

-- the spelling of the types of values in a row, which is the signature of a body
abbrev pub types_codes : List Value → List ℕ
types_codes values = joined (map type_codes values)
