-- An array is spelt as its elements are, also where they are packed.
use Rattle.std.proofs.Common.{◌≡◌, ℕ, zero, suc, ◌+◌, Bool, List, [], ◌∷◌, ◌++◌, length, map, Option, Some, None, refl, sym, ap, subst, ◌∙◌}
use Rattle.std.specs.Prelude.{ℤ}
use Rattle.std.specs.Int.{w16, w32, w64, cast_unsigned}
use Rattle.dbus_signature.specs.declared.kind.Basic.{Basic}
use Rattle.dbus_signature.specs.declared.kind.Basic.TheVariants as basic
use Rattle.dbus_signature.specs.declared.kind.Kind.{Kind}
use Rattle.dbus_signature.specs.declared.kind.Kind.TheVariants.{Basic as Plain, Variant, Array, Dict, Struct}
use Rattle.dbus_signature.specs.declared.kind.Kind.TheViews.{out-Kind}
use Rattle.dbus_signature.specs.declared.kind.Kind.TheOpen.{Kind-F}
use Rattle.dbus_signature.specs.Types.{code, codes}
use Rattle.dbus_signature.proofs.KindLaws.{by_kind, codes_plain}
use Rattle.dbus_wire.specs.declared.value.Endian.{Endian}
use Rattle.dbus_wire.specs.declared.value.Packed.{Packed}
use Rattle.dbus_wire.specs.declared.value.Packed.TheVariants as packed
use Rattle.dbus_wire.specs.declared.value.Value.{Value}
use Rattle.dbus_wire.specs.declared.value.Value.TheVariants as value
use Rattle.dbus_wire.specs.Alignment.{alignment, codes_alignment, element_alignment}
use Rattle.dbus_wire.specs.Fits.{Each, Fits, FitsEntry, IsBasic, IsClosed, IsOpen, Said}
use Rattle.dbus_wire.specs.Packing.{array_by, array_of, number_in, packed_codes, packing, packing_of, signed_in, truth_in}
use Rattle.dbus_wire.specs.Spelling.{aligned, array_spelling, bit, in_row, packed_row, padding, spelling, spellings, to_bytes}
use Rattle.dbus_wire.proofs.ArrayLaws.{seen_bool, seen_byte, seen_double, seen_fd, seen_i16, seen_i32, seen_i64, seen_u16, seen_u32, seen_u64}
use Rattle.dbus_wire.proofs.Some.{array_aligned, dict_aligned, out_plain, out_variant, out_array, out_dict, out_struct}
use Rattle.dbus_wire.proofs.SpellingLaws.{spelt_array, spelt_bool, spelt_byte, spelt_double, spelt_fd, spelt_i16, spelt_i32, spelt_i64, spelt_packed, spelt_u16, spelt_u32, spelt_u64}

-- where the elements of an array begin
abbrev pub first_at : ℕ → ℕ → ℕ
first_at align at = at + length (padding 4 at) + 4 + length (padding align (at + length (padding 4 at) + 4))

-- What is made of elements is spelt as an array of them.
abbrev pub SpeltAs : Endian → ℕ → Said → (List Value → Value) → Type 0
SpeltAs e align said make = (items : List Value) (at : ℕ) → Each e said items (first_at align at) → spelling e (make items) at ≡ array_spelling e align (spellings e items) at

-- Of a basic type nothing is said that isn't a value of that type.
abbrev pub Plainly : (Kind → Said) → Type 0
Plainly said = (b : Basic) (at : ℕ) (v : Value) → said (Plain b) at v → IsBasic b v

pub fits_plain : (e : Endian) (room : ℕ) → Plainly (Fits e room)
unfolding Fits
fits_plain e zero b at v is = subst (λ (layer : Kind-F Kind). IsClosed layer v) (out_plain b) is
fits_plain e (suc room) b at v is = subst (λ (layer : Kind-F Kind). IsOpen e (Fits e room) (FitsEntry e room) (Plain b) layer at v) (out_plain b) is

-- only the offset of the first element matters
along : (e : Endian) (align : ℕ) (f g : ℕ → List ℕ) (at : ℕ) → f (first_at align at) ≡ g (first_at align at) → array_spelling e align f at ≡ array_spelling e align g at
along e align f g at same =
    let length_at = at + length (padding 4 at) in
    ap (λ (t : List ℕ). padding 4 at ++ (to_bytes e w32 (length t) ++ (padding align (length_at + 4) ++ t))) same

row_spelt : {A : Type 0} (e : Endian) (said : Said) (pick : Value → A) (spelt : A → ℕ → List ℕ) → ((at : ℕ) (v : Value) → said at v → spelling e v at ≡ spelt (pick v) at)
    → (items : List Value) (at : ℕ) → Each e said items at → in_row (map spelt (map pick items)) at ≡ spellings e items at
row_spelt e said pick spelt same [] at each = refl
row_spelt e said pick spelt same (v ∷ vs) at each =
    ap (λ (t : List ℕ). t ++ in_row (map spelt (map pick vs)) (at + length t)) (sym (same at v each.0))
    ∙ ap (λ (t : List ℕ). spelling e v at ++ t) (row_spelt e said pick spelt same vs (at + length (spelling e v at)) each.1)

-- a number and its spelling
number_spelt : {A : Type 0} (e : Endian) (pick : Value → A) (spelt : A → ℕ → List ℕ) (make : A → Value) → ((x : A) (at : ℕ) → spelling e (make x) at ≡ spelt x at) → ((x : A) → pick (make x) ≡ x)
    → (at : ℕ) (v : Value) (x : A) → v ≡ make x → spelling e v at ≡ spelt (pick v) at
number_spelt e pick spelt make spells seen at v x is = rw is (spells x at ∙ ap (λ y. spelt y at) (sym (seen x)))

packed_spelt : (e : Endian) (elements : Packed) (b : Basic) (said : Said) (items : List Value) (at : ℕ) → packed_codes elements ≡ 97 ∷ code b ∷ [] → in_row (packed_row e elements) (first_at (codes_alignment (code b ∷ [])) at) ≡ spellings e items (first_at (codes_alignment (code b ∷ [])) at)
    → spelling e (value.Packed elements) at ≡ array_spelling e (codes_alignment (code b ∷ [])) (spellings e items) at
packed_spelt e elements b said items at is same =
    spelt_packed e elements at
    ∙ ap (λ (codes : List ℕ). array_spelling e (element_alignment codes) (in_row (packed_row e elements)) at) is
    ∙ along e (codes_alignment (code b ∷ [])) (in_row (packed_row e elements)) (spellings e items) at same

plain_aligned : (b : Basic) → alignment (Plain b) ≡ codes_alignment (code b ∷ [])
plain_aligned b = ap codes_alignment (codes_plain b)

-- elements that are held as values
values_spelt : (e : Endian) (el : Kind) (items : List Value) (at : ℕ) → spelling e (value.Array (codes (Array el)) items) at ≡ array_spelling e (alignment el) (spellings e items) at
values_spelt e el items at = spelt_array e (codes (Array el)) items at ∙ ap (λ (n : ℕ). array_spelling e n (spellings e items) at) (array_aligned el)

text_spelt : (e : Endian) (b : Basic) (items : List Value) (at : ℕ) → spelling e (value.Array (codes (Array (Plain b))) items) at ≡ array_spelling e (codes_alignment (code b ∷ [])) (spellings e items) at
text_spelt e b items at = values_spelt e (Plain b) items at ∙ ap (λ (n : ℕ). array_spelling e n (spellings e items) at) (plain_aligned b)

basic_spelt : (e : Endian) (b : Basic) (said : Said) → ((at : ℕ) (v : Value) → said at v → IsBasic b v) → (items : List Value) (at : ℕ) → Each e said items (first_at (codes_alignment (code b ∷ [])) at)
    → spelling e (array_by (Plain b) (packing b) items) at ≡ array_spelling e (codes_alignment (code b ∷ [])) (spellings e items) at
basic_spelt e basic.Byte said plain items at each = packed_spelt e _ basic.Byte said items at refl (row_spelt e said number_in (λ n at. n ∷ []) (λ at v is. let p = plain at v is in number_spelt e number_in (λ n at. n ∷ []) value.Byte (spelt_byte e) seen_byte at v p.0 p.1) items _ each)
basic_spelt e basic.Bool said plain items at each = packed_spelt e _ basic.Bool said items at refl (row_spelt e said truth_in (λ truth. aligned e w32 (bit truth)) (λ at v is. let p = plain at v is in number_spelt e truth_in (λ truth. aligned e w32 (bit truth)) value.Bool (spelt_bool e) seen_bool at v p.0 p.1) items _ each)
basic_spelt e basic.I16 said plain items at each = packed_spelt e _ basic.I16 said items at refl (row_spelt e said signed_in (λ n. aligned e w16 (cast_unsigned w16 n)) (λ at v is. let p = plain at v is in number_spelt e signed_in (λ n. aligned e w16 (cast_unsigned w16 n)) value.I16 (spelt_i16 e) seen_i16 at v _ p.1) items _ each)
basic_spelt e basic.U16 said plain items at each = packed_spelt e _ basic.U16 said items at refl (row_spelt e said number_in (aligned e w16) (λ at v is. let p = plain at v is in number_spelt e number_in (aligned e w16) value.U16 (spelt_u16 e) seen_u16 at v p.0 p.1) items _ each)
basic_spelt e basic.I32 said plain items at each = packed_spelt e _ basic.I32 said items at refl (row_spelt e said signed_in (λ n. aligned e w32 (cast_unsigned w32 n)) (λ at v is. let p = plain at v is in number_spelt e signed_in (λ n. aligned e w32 (cast_unsigned w32 n)) value.I32 (spelt_i32 e) seen_i32 at v _ p.1) items _ each)
basic_spelt e basic.U32 said plain items at each = packed_spelt e _ basic.U32 said items at refl (row_spelt e said number_in (aligned e w32) (λ at v is. let p = plain at v is in number_spelt e number_in (aligned e w32) value.U32 (spelt_u32 e) seen_u32 at v p.0 p.1) items _ each)
basic_spelt e basic.I64 said plain items at each = packed_spelt e _ basic.I64 said items at refl (row_spelt e said signed_in (λ n. aligned e w64 (cast_unsigned w64 n)) (λ at v is. let p = plain at v is in number_spelt e signed_in (λ n. aligned e w64 (cast_unsigned w64 n)) value.I64 (spelt_i64 e) seen_i64 at v _ p.1) items _ each)
basic_spelt e basic.U64 said plain items at each = packed_spelt e _ basic.U64 said items at refl (row_spelt e said number_in (aligned e w64) (λ at v is. let p = plain at v is in number_spelt e number_in (aligned e w64) value.U64 (spelt_u64 e) seen_u64 at v p.0 p.1) items _ each)
basic_spelt e basic.Double said plain items at each = packed_spelt e _ basic.Double said items at refl (row_spelt e said number_in (aligned e w64) (λ at v is. let p = plain at v is in number_spelt e number_in (aligned e w64) value.Double (spelt_double e) seen_double at v p.0 p.1) items _ each)
basic_spelt e basic.Fd said plain items at each = packed_spelt e _ basic.Fd said items at refl (row_spelt e said number_in (aligned e w32) (λ at v is. let p = plain at v is in number_spelt e number_in (aligned e w32) value.Fd (spelt_fd e) seen_fd at v p.0 p.1) items _ each)
basic_spelt e basic.Str said plain items at each = text_spelt e basic.Str items at
basic_spelt e basic.Path said plain items at each = text_spelt e basic.Path items at
basic_spelt e basic.Sig said plain items at each = text_spelt e basic.Sig items at

pub elements_spelt : (e : Endian) (said : Kind → Said) → Plainly said → (el : Kind) → SpeltAs e (alignment el) (said el) (array_of el)
unfolding array_of
elements_spelt e said plain = by_kind (λ el. SpeltAs e (alignment el) (said el) (array_of el))
    (λ b. rw (out_plain b, plain_aligned b) (λ items at each. basic_spelt e b (said (Plain b)) (plain b) items at each))
    (rw out_variant (λ items at each. values_spelt e Variant items at))
    (λ inner. rw (out_array inner) (λ items at each. values_spelt e (Array inner) items at))
    (λ b inner. rw (out_dict b inner) (λ items at each. values_spelt e (Dict b inner) items at))
    (λ ks. rw (out_struct ks) (λ items at each. values_spelt e (Struct ks) items at))

pub entries_spelt : (e : Endian) (said : Said) (b : Basic) (inner : Kind) → SpeltAs e 8 said (value.Array (codes (Dict b inner)))
entries_spelt e said b inner items at each = spelt_array e (codes (Dict b inner)) items at ∙ ap (λ (n : ℕ). array_spelling e n (spellings e items) at) (dict_aligned b inner)
