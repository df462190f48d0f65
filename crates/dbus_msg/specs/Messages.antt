-- Whole messages, read out of their bytes (D-Bus Specification, "Message Format").
use Rattle.std.specs.Prelude.{ℕ, ◌-◌, ◌==◌, Bool, List, [], ◌∷◌, length, take, drop, Option, Some, None, option_and_then, if◌then◌else◌}
use Rattle.std.specs.Result.{result_ok}
use Rattle.std.specs.List.{list_all}
use Rattle.dbus_signature.specs.declared.kind.Basic.TheVariants as basic
use Rattle.dbus_signature.specs.declared.kind.Kind.{Kind}
use Rattle.dbus_signature.specs.declared.kind.Kind.TheVariants.{Basic as Plain, Variant, Array, Struct}
use Rattle.dbus_signature.specs.Signatures.{all_kinds}
use Rattle.dbus_wire.specs.declared.value.Endian.{Endian}
use Rattle.dbus_wire.specs.declared.value.Value.{Value}
use Rattle.dbus_wire.specs.declared.value.Value.TheViews.{out-Value}
use Rattle.dbus_wire.specs.declared.value.Value.TheOpen.{Value-F}
use Rattle.dbus_wire.specs.Values.{value_of, values_of}
use Rattle.dbus_msg.specs.declared.header.Header.{Header}
use Rattle.dbus_msg.specs.declared.known.Known.{Known}
use Rattle.dbus_msg.specs.declared.message.Message.{Message}
use Rattle.dbus_msg.specs.Headers.{body_start, fields_end, header_of, whole_len}
use Rattle.dbus_msg.specs.Known.{has_required, known_from, no_fields}

-- The type of the header fields: `a(yv)` ("Message Format").
abbrev pub fields_kind : Kind
fields_kind = Array (Struct (Plain basic.Byte ∷ Variant ∷ []))

-- where the header fields begin, with their length, behind the byte order, the kind, the flags, the version, the length of
-- the body and the serial ("Message Format")
abbrev pub fields_start : ℕ
fields_start = 12

abbrev pub items_of : Value-F Value → Option (List Value)
items_of (Value-F.Array codes items) = Some items
items_of layer = None

-- the items of an array
abbrev pub items_in : Value → Option (List Value)
items_in value = items_of (out-Value value)

abbrev pub known_in : Value × ℕ → Option Known
known_in found = option_and_then (λ items. known_from items no_fields) (items_in found.0)

-- the known header fields ("Header Fields")
unfoldable pub fields_in : Endian → List ℕ → Option Known
fields_in endian bytes = option_and_then known_in (result_ok (value_of endian fields_kind fields_start bytes))

-- The bytes between the header fields and the body are zeros ("Message Format": the header ends at a multiple of 8).
abbrev pub are_zeros : List ℕ → Bool
are_zeros bytes = list_all (λ b. b == 0) bytes

-- The values of a signature from an offset to the end of the bytes; without a signature there are none ("Message Format",
-- and SIGNATURE in "Header Fields").
abbrev pub to_the_end : List ℕ → List Value × ℕ → Option (List Value)
to_the_end bytes found = if found.1 == length bytes then Some found.0 else None

unfoldable pub body_in : Endian → Option (List ℕ) → ℕ → List ℕ → Option (List Value)
body_in endian None start bytes = to_the_end bytes ([], start)
body_in endian (Some codes) start bytes =
    option_and_then (λ kinds. option_and_then (to_the_end bytes) (result_ok (values_of endian kinds start bytes))) (result_ok (all_kinds codes))

-- a message of a header, of its known fields, those that its kind requires among them ("Message Types", "Header Fields"),
-- and of its body
abbrev pub made : Header → Known → List Value → Option Message
made header known body =
    if has_required header.kind known.fields then Some (record { kind = header.kind; flags = header.flags; serial = header.serial; fields = known.fields; body = body }) else None

abbrev pub gap_is_zero : Header → List ℕ → Bool
gap_is_zero header bytes = are_zeros (take (body_start header - fields_end header) (drop (fields_end header) bytes))

abbrev pub with_fields : Header → List ℕ → Known → Option Message
with_fields header bytes known =
    if gap_is_zero header bytes then option_and_then (made header known) (body_in header.endian known.signature (body_start header) bytes) else None

abbrev pub with_header : List ℕ → Header → Option Message
with_header bytes header =
    if whole_len header == length bytes then option_and_then (with_fields header bytes) (fields_in header.endian bytes) else None

-- The message that bytes are as a whole ("Message Format"). Unknown fields and flags are ignored ("Header Fields").
unfoldable pub message_of : List ℕ → Option Message
message_of bytes = option_and_then (with_header bytes) (header_of bytes)
