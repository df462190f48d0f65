-- How values are spelt (D-Bus Specification, "Marshaling (Wire Format)"). A value's spelling depends on the offset at
-- which it begins, since padding aligns it, and on the order of bytes.
use Rattle.std.specs.Prelude.{ℕ, ◌+◌, Bool, true, false, List, [], ◌∷◌, ◌++◌, length, map, replicate}
use Rattle.std.specs.Int.{Width, w16, w32, w64, byte_len, to_le_bytes, to_be_bytes, cast_unsigned}
use Rattle.dbus_wire.specs.declared.value.Endian.{Endian}
use Rattle.dbus_wire.specs.declared.value.Endian.TheVariants.{Little, Big}
use Rattle.dbus_wire.specs.declared.value.Packed.{Packed}
use Rattle.dbus_wire.specs.declared.value.Packed.TheVariants as packed
use Rattle.dbus_wire.specs.declared.value.Value.{Value}
use Rattle.dbus_wire.specs.declared.value.Value.TheOpen.{Value-F}
use Rattle.dbus_wire.specs.declared.value.Value.TheFolds.{fold-Value}
use Rattle.dbus_wire.specs.Fields.{gap}
use Rattle.dbus_wire.specs.Alignment.{element_alignment}
use Rattle.dbus_wire.specs.Packing.{packed_codes}

-- zeros up to the next multiple of an alignment ("Byte order and alignment")
abbrev pub padding : (align at : ℕ) → List ℕ
padding align at = replicate (gap align at) 0

abbrev pub to_bytes : Endian → Width → ℕ → List ℕ
to_bytes Little width n = to_le_bytes width n
to_bytes Big width n = to_be_bytes width n

-- a number behind its padding ("Marshalling basic types")
abbrev pub aligned : Endian → Width → ℕ → ℕ → List ℕ
aligned endian width n at = padding (byte_len width) at ++ to_bytes endian width n

abbrev pub bit : Bool → ℕ
bit false = 0
bit true = 1

-- a length, the text and a NUL ("Marshalling basic types", STRING and OBJECT_PATH)
abbrev pub text_spelling : Endian → List ℕ → ℕ → List ℕ
text_spelling endian text at = aligned endian w32 (length text) at ++ (text ++ 0 ∷ [])

-- a length of one byte, the codes and a NUL ("Marshalling basic types", SIGNATURE)
abbrev pub signature_spelling : List ℕ → List ℕ
signature_spelling codes = length codes ∷ codes ++ 0 ∷ []

-- one after the other, each at the offset where the one before it ends
abbrev pub in_row : List (ℕ → List ℕ) → ℕ → List ℕ
in_row [] at = []
in_row (first ∷ others) at = first at ++ in_row others (at + length (first at))

-- behind padding to an alignment
abbrev pub behind_padding : ℕ → (ℕ → List ℕ) → ℕ → List ℕ
behind_padding align inner at = padding align at ++ inner (at + length (padding align at))

-- the length in bytes of the contents, and the contents behind their padding, which the length leaves out
-- ("Marshalling containers", ARRAY)
abbrev pub counted : Endian → ℕ → (ℕ → List ℕ) → ℕ → List ℕ
counted endian align contents at =
    to_bytes endian w32 (length (contents (at + 4 + length (padding align (at + 4))))) ++ behind_padding align contents (at + 4)

abbrev pub array_spelling : Endian → ℕ → (ℕ → List ℕ) → ℕ → List ℕ
array_spelling endian align contents = behind_padding 4 (counted endian align contents)

-- packed elements, each with its spelling
abbrev pub packed_row : Endian → Packed → List (ℕ → List ℕ)
packed_row endian (packed.Bytes ns) = map (λ n at. n ∷ []) ns
packed_row endian (packed.Bools truths) = map (λ truth. aligned endian w32 (bit truth)) truths
packed_row endian (packed.I16s ns) = map (λ n. aligned endian w16 (cast_unsigned w16 n)) ns
packed_row endian (packed.U16s ns) = map (aligned endian w16) ns
packed_row endian (packed.I32s ns) = map (λ n. aligned endian w32 (cast_unsigned w32 n)) ns
packed_row endian (packed.U32s ns) = map (aligned endian w32) ns
packed_row endian (packed.I64s ns) = map (λ n. aligned endian w64 (cast_unsigned w64 n)) ns
packed_row endian (packed.U64s ns) = map (aligned endian w64) ns
packed_row endian (packed.Doubles ns) = map (aligned endian w64) ns
packed_row endian (packed.Fds ns) = map (aligned endian w32) ns

-- one level of a value, with the spelling of each value in it ("Marshalling basic types"; "Marshalling containers" for
-- ARRAY, STRUCT, DICT_ENTRY and VARIANT)
abbrev pub spelling_step : Endian → Value-F (ℕ → List ℕ) → ℕ → List ℕ
spelling_step endian (Value-F.Byte n) at = n ∷ []
spelling_step endian (Value-F.Bool truth) at = aligned endian w32 (bit truth) at
spelling_step endian (Value-F.I16 n) at = aligned endian w16 (cast_unsigned w16 n) at
spelling_step endian (Value-F.U16 n) at = aligned endian w16 n at
spelling_step endian (Value-F.I32 n) at = aligned endian w32 (cast_unsigned w32 n) at
spelling_step endian (Value-F.U32 n) at = aligned endian w32 n at
spelling_step endian (Value-F.I64 n) at = aligned endian w64 (cast_unsigned w64 n) at
spelling_step endian (Value-F.U64 n) at = aligned endian w64 n at
spelling_step endian (Value-F.Double n) at = aligned endian w64 n at
spelling_step endian (Value-F.Str text) at = text_spelling endian text at
spelling_step endian (Value-F.Path text) at = text_spelling endian text at
spelling_step endian (Value-F.Sig codes) at = signature_spelling codes
spelling_step endian (Value-F.Fd n) at = aligned endian w32 n at
spelling_step endian (Value-F.Packed elements) at = array_spelling endian (element_alignment (packed_codes elements)) (in_row (packed_row endian elements)) at
spelling_step endian (Value-F.Array codes items) at = array_spelling endian (element_alignment codes) (in_row items) at
spelling_step endian (Value-F.Struct members) at = behind_padding 8 (in_row members) at
spelling_step endian (Value-F.Pair key inner) at = behind_padding 8 (in_row (key ∷ inner ∷ [])) at
spelling_step endian (Value-F.Variant codes inner) at = signature_spelling codes ++ inner (at + length (signature_spelling codes))

-- the spelling of a value that begins at an offset
abbrev pub spelling : Endian → Value → ℕ → List ℕ
spelling endian = fold-Value (ℕ → List ℕ) (spelling_step endian)

-- the spellings of values one after the other
abbrev pub spellings : Endian → List Value → ℕ → List ℕ
spellings endian values = in_row (map (spelling endian) values)
