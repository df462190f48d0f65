-- No spelling is empty, and how the one level of a type is opened.
use Rattle.std.proofs.Common.{◌≡◌, ℕ, ◌^◌, ◌<◌, List, [], ◌∷◌, ◌++◌, length, refl, sym, ap, ◌∙◌, arith}
use Rattle.std.specs.Int.{Width, w16, w32, w64, byte_len, cast_signed}
use Rattle.std.proofs.lemmas.List.{length-append}
use Rattle.dbus_signature.specs.declared.kind.Basic.{Basic}
use Rattle.dbus_signature.specs.declared.kind.Basic.TheVariants as basic
use Rattle.dbus_signature.specs.declared.kind.Kind.{Kind}
use Rattle.dbus_signature.specs.declared.kind.Kind.TheVariants.{Basic as Plain, Variant, Array, Dict, Struct, rolls-Basic, rolls-Variant, rolls-Array, rolls-Dict, rolls-Struct}
use Rattle.dbus_signature.specs.declared.kind.Kind.TheViews.{out-Kind, out-roll-Kind}
use Rattle.dbus_signature.specs.declared.kind.Kind.TheOpen.{Kind-F}
use Rattle.dbus_signature.specs.Types.{codes}
use Rattle.dbus_signature.proofs.KindLaws.{codes_array, codes_dict}
use Rattle.dbus_wire.specs.declared.value.Endian.{Endian}
use Rattle.dbus_wire.specs.declared.value.Value.{Value}
use Rattle.dbus_wire.specs.Alignment.{alignment, element_alignment}
use Rattle.dbus_wire.specs.Spelling.{spelling, padding, aligned, to_bytes, bit, text_spelling}
use Rattle.dbus_wire.specs.Fits.{IsBasic}
use Rattle.dbus_wire.proofs.Again.{IsWide, wide16, wide32, wide64}
use Rattle.dbus_wire.proofs.SpellingLaws.{spelt_byte, spelt_bool, spelt_i16, spelt_u16, spelt_i32, spelt_u32, spelt_i64, spelt_u64, spelt_double, spelt_fd, spelt_str, spelt_path, spelt_sig}

pub out_plain : (b : Basic) → out-Kind (Plain b) ≡ Kind-F.Basic b
out_plain b = ap out-Kind (sym (rolls-Basic b)) ∙ out-roll-Kind (Kind-F.Basic b)

pub out_variant : out-Kind Variant ≡ Kind-F.Variant
out_variant = ap out-Kind (sym rolls-Variant) ∙ out-roll-Kind Kind-F.Variant

pub out_array : (e : Kind) → out-Kind (Array e) ≡ Kind-F.Array e
out_array e = ap out-Kind (sym (rolls-Array e)) ∙ out-roll-Kind (Kind-F.Array e)

pub out_dict : (b : Basic) (e : Kind) → out-Kind (Dict b e) ≡ Kind-F.Dict b e
out_dict b e = ap out-Kind (sym (rolls-Dict b e)) ∙ out-roll-Kind (Kind-F.Dict b e)

pub out_struct : (ks : List Kind) → out-Kind (Struct ks) ≡ Kind-F.Struct ks
out_struct ks = ap out-Kind (sym (rolls-Struct ks)) ∙ out-roll-Kind (Kind-F.Struct ks)

-- ---- the alignment of elements

pub array_aligned : (e : Kind) → element_alignment (codes (Array e)) ≡ alignment e
array_aligned e = rw (codes_array e) refl

pub dict_aligned : (b : Basic) (e : Kind) → element_alignment (codes (Dict b e)) ≡ 8
dict_aligned b e = rw (codes_dict b e) refl

-- ---- no spelling is empty

aligned_some : (e : Endian) (w : Width) (limit : ℕ) → IsWide e w limit → 0 < byte_len w → (n at : ℕ) → 0 < length (aligned e w n at)
aligned_some e w limit wide some n at = omega (arith, length-append (padding (byte_len w) at) (to_bytes e w n), wide.len n)

text_some : (e : Endian) (text : List ℕ) (at : ℕ) → 0 < length (text_spelling e text at)
text_some e text at = omega (arith, length-append (aligned e w32 (length text) at) (text ++ 0 ∷ []), aligned_some e w32 (2 ^ 32) (wide32 e) (omega arith) (length text) at)

pub basic_some : (e : Endian) (b : Basic) (at : ℕ) (v : Value) → IsBasic b v → 0 < length (spelling e v at)
basic_some e basic.Byte at v is = rw (is.1, spelt_byte e is.0 at) (omega arith)
basic_some e basic.Bool at v is = rw (is.1, spelt_bool e is.0 at) (aligned_some e w32 (2 ^ 32) (wide32 e) (omega arith) (bit is.0) at)
basic_some e basic.I16 at v is = rw (is.1, spelt_i16 e (cast_signed w16 is.0) at) (aligned_some e w16 (2 ^ 16) (wide16 e) (omega arith) _ at)
basic_some e basic.U16 at v is = rw (is.1, spelt_u16 e is.0 at) (aligned_some e w16 (2 ^ 16) (wide16 e) (omega arith) _ at)
basic_some e basic.I32 at v is = rw (is.1, spelt_i32 e (cast_signed w32 is.0) at) (aligned_some e w32 (2 ^ 32) (wide32 e) (omega arith) _ at)
basic_some e basic.U32 at v is = rw (is.1, spelt_u32 e is.0 at) (aligned_some e w32 (2 ^ 32) (wide32 e) (omega arith) _ at)
basic_some e basic.I64 at v is = rw (is.1, spelt_i64 e (cast_signed w64 is.0) at) (aligned_some e w64 (2 ^ 64) (wide64 e) (omega arith) _ at)
basic_some e basic.U64 at v is = rw (is.1, spelt_u64 e is.0 at) (aligned_some e w64 (2 ^ 64) (wide64 e) (omega arith) _ at)
basic_some e basic.Double at v is = rw (is.1, spelt_double e is.0 at) (aligned_some e w64 (2 ^ 64) (wide64 e) (omega arith) _ at)
basic_some e basic.Str at v is = rw (is.1, spelt_str e is.0 at) (text_some e is.0 at)
basic_some e basic.Path at v is = rw (is.1, spelt_path e is.0 at) (text_some e is.0 at)
basic_some e basic.Sig at v is = rw (is.1, spelt_sig e is.0 at) (omega arith)
basic_some e basic.Fd at v is = rw (is.1, spelt_fd e is.0 at) (aligned_some e w32 (2 ^ 32) (wide32 e) (omega arith) _ at)
