-- How arrays are held: those of a fixed basic type as packed numbers, all others as values (D-Bus Specification, "Basic
-- types", which calls a type fixed where all of its values have one length).
use Rattle.std.specs.Prelude.{ℕ, ℤ, pos, Bool, true, false, List, [], ◌∷◌, map, Option, Some, None}
use Rattle.dbus_signature.specs.declared.kind.Basic.{Basic}
use Rattle.dbus_signature.specs.declared.kind.Basic.TheVariants as basic
use Rattle.dbus_signature.specs.declared.kind.Kind.{Kind}
use Rattle.dbus_signature.specs.declared.kind.Kind.TheVariants.{Array}
use Rattle.dbus_signature.specs.declared.kind.Kind.TheViews.{out-Kind}
use Rattle.dbus_signature.specs.declared.kind.Kind.TheOpen.{Kind-F}
use Rattle.dbus_signature.specs.Types.{code, codes}
use Rattle.dbus_wire.specs.declared.value.Packed.{Packed}
use Rattle.dbus_wire.specs.declared.value.Packed.TheVariants as packed
use Rattle.dbus_wire.specs.declared.value.Value.{Value}
use Rattle.dbus_wire.specs.declared.value.Value.TheVariants as value
use Rattle.dbus_wire.specs.declared.value.Value.TheViews.{out-Value}
use Rattle.dbus_wire.specs.declared.value.Value.TheOpen.{Value-F}

-- the type of packed elements
abbrev pub packed_basic : Packed → Basic
packed_basic (packed.Bytes ns) = basic.Byte
packed_basic (packed.Bools truths) = basic.Bool
packed_basic (packed.I16s ns) = basic.I16
packed_basic (packed.U16s ns) = basic.U16
packed_basic (packed.I32s ns) = basic.I32
packed_basic (packed.U32s ns) = basic.U32
packed_basic (packed.I64s ns) = basic.I64
packed_basic (packed.U64s ns) = basic.U64
packed_basic (packed.Doubles ns) = basic.Double
packed_basic (packed.Fds ns) = basic.Fd

-- the spelling of their array's type
abbrev pub packed_codes : Packed → List ℕ
packed_codes elements = 97 ∷ code (packed_basic elements) ∷ []

-- The number in a value that is one, and 0 in any other; and likewise a signed number and a truth.
abbrev pub number_of : Value-F Value → ℕ
number_of (Value-F.Byte n) = n
number_of (Value-F.U16 n) = n
number_of (Value-F.U32 n) = n
number_of (Value-F.U64 n) = n
number_of (Value-F.Double n) = n
number_of (Value-F.Fd n) = n
number_of layer = 0

unfoldable pub number_in : Value → ℕ
number_in v = number_of (out-Value v)

abbrev pub signed_of : Value-F Value → ℤ
signed_of (Value-F.I16 n) = n
signed_of (Value-F.I32 n) = n
signed_of (Value-F.I64 n) = n
signed_of layer = pos 0

unfoldable pub signed_in : Value → ℤ
signed_in v = signed_of (out-Value v)

abbrev pub truth_of : Value-F Value → Bool
truth_of (Value-F.Bool truth) = truth
truth_of layer = false

unfoldable pub truth_in : Value → Bool
truth_in v = truth_of (out-Value v)

-- how elements of a basic type are packed, if that is fixed
abbrev pub packing : Basic → Option (List Value → Packed)
packing basic.Byte = Some (λ items. packed.Bytes (map number_in items))
packing basic.Bool = Some (λ items. packed.Bools (map truth_in items))
packing basic.I16 = Some (λ items. packed.I16s (map signed_in items))
packing basic.U16 = Some (λ items. packed.U16s (map number_in items))
packing basic.I32 = Some (λ items. packed.I32s (map signed_in items))
packing basic.U32 = Some (λ items. packed.U32s (map number_in items))
packing basic.I64 = Some (λ items. packed.I64s (map signed_in items))
packing basic.U64 = Some (λ items. packed.U64s (map number_in items))
packing basic.Double = Some (λ items. packed.Doubles (map number_in items))
packing basic.Fd = Some (λ items. packed.Fds (map number_in items))
packing basic.Str = None
packing basic.Path = None
packing basic.Sig = None

abbrev pub packing_of : Kind-F Kind → Option (List Value → Packed)
packing_of (Kind-F.Basic basic) = packing basic
packing_of layer = None

abbrev pub array_by : Kind → Option (List Value → Packed) → List Value → Value
array_by element (Some pack) items = value.Packed (pack items)
array_by element None items = value.Array (codes (Array element)) items

-- The array of these elements, which are of this type.
unfoldable pub array_of : Kind → List Value → Value
array_of element items = array_by element (packing_of (out-Kind element)) items
