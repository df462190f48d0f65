-- The fields that are read one by one are those of the array of structs as which "Message Format" has them.
use Rattle.std.proofs.Common.{◌≡◌, ℕ, zero, suc, ◌+◌, ◌-◌, ◌<◌, ◌≤◌, Bool, true, false, cond, eqb, ltb, List, [], ◌∷◌, length, take, drop, Option, Some, None, Result, Ok, Err, refl, sym, ap, subst, ◌∙◌, arith}
use Rattle.std.specs.Prelude.{MatchBool, option_and_then}
use Rattle.std.specs.Option.{option_map}
use Rattle.std.specs.Result.{result_ok}
use Rattle.std.specs.Int.{w16, w32, w64, cast_signed}
use Rattle.dbus_signature.specs.declared.kind.Basic.{Basic}
use Rattle.dbus_signature.specs.declared.kind.Basic.TheVariants as basic
use Rattle.dbus_signature.specs.declared.kind.Kind.{Kind}
use Rattle.dbus_signature.specs.declared.kind.Kind.TheVariants.{Basic as Plain, Variant, Array, Struct}
use Rattle.dbus_signature.specs.declared.kind.Kind.TheViews.{out-Kind}
use Rattle.dbus_signature.specs.declared.kind.Kind.TheOpen.{Kind-F}
use Rattle.dbus_signature.specs.Reading.{Read, Reader, ◌>>=◌}
use Rattle.dbus_signature.specs.Signatures.{kind_at}
use Rattle.dbus_signature.specs.Types.{codes}
use Rattle.dbus_signature.proofs.KindLaws.{codes_struct}
use Rattle.dbus_wire.specs.declared.value.Endian.{Endian}
use Rattle.dbus_wire.specs.declared.value.Packed.{Packed}
use Rattle.dbus_wire.specs.declared.value.Value.{Value}
use Rattle.dbus_wire.specs.declared.value.Value.TheVariants as value
use Rattle.dbus_wire.specs.declared.value.Value.TheVariants.{rolls-Array, rolls-Bool, rolls-Double, rolls-Fd, rolls-I16, rolls-I32, rolls-I64, rolls-Packed, rolls-U16, rolls-U64}
use Rattle.dbus_wire.specs.declared.value.Value.TheOpen.{Value-F}
use Rattle.dbus_wire.specs.declared.value.Value.TheViews.{out-Value, out-roll-Value}
use Rattle.dbus_wire.specs.Alignment.{alignment, codes_alignment}
use Rattle.dbus_wire.specs.Arrays.{head_at}
use Rattle.dbus_wire.specs.Fields.{aligned_at, bool_at, byte_at, codes_at, one_type_of, padding_at, signature_at, text_at, type_at, zeros_at}
use Rattle.dbus_wire.specs.Packing.{array_by, array_of, packing_of}
use Rattle.dbus_wire.specs.Texts.{is_text}
use Rattle.dbus_wire.specs.Values.{array_at, as_value, basic_value_at, contents_at, entry_at, items_at, max_open, members_at, struct_at, value_at, value_by, variant_at, whole_items}
use Rattle.dbus_wire.proofs.ArrayLaws.{array_opens, bind_assoc}
use Rattle.dbus_wire.proofs.Some.{out_array, out_plain, out_struct, out_variant}
use Rattle.dbus_wire.proofs.ValueLaws.{none_left, some_left, value_opens}
use Rattle.dbus_held.specs.Ends.{forget, is_path_text, only_type, type_end, value_end}
use Rattle.dbus_held.proofs.EndLaws.{ends_are}
use Rattle.dbus_msg.specs.declared.field_reading.Told.{Told}
use Rattle.dbus_msg.specs.declared.field_reading.Told.TheVariants as tells
use Rattle.dbus_msg.specs.declared.known.Known.{Known}
use Rattle.dbus_msg.specs.FieldReading.{content_at, field_at, fields_one_by_one, fields_within, take_field, take_fields, taken, told_at, told_by, told_in, told_of}
use Rattle.dbus_msg.specs.Known.{a_number, a_path, a_signature, a_text, another, Content, content_in, content_of, item_in, known_from, no_fields, with_field}
use Rattle.dbus_msg.specs.Messages.{fields_in, fields_kind, fields_start, items_in, known_in}
use Rattle.dbus_msg.proofs.FieldsRead.{out_byte, out_inner, out_members, out_path, out_sig, out_str, out_u32, struct_taken}

-- ---- steps in a row

along : {A B : Type 0} (r : Result A ℕ) (f g : A → Result B ℕ) → ((x : A) → f x ≡ g x) → (r >>= f) ≡ (r >>= g)
along (Ok x) f g same = same x
along (Err place) f g same = refl

made_of : {A B C : Type 0} (f : B → C) (r : Result A ℕ) (k : A → Read B) → as_value f (r >>= k) ≡ (r >>= λ x. as_value f (k x))
made_of f (Ok x) k = refl
made_of f (Err place) k = refl

-- ---- one field

-- the type of a header field: `(yv)`
abbrev field_types : List Kind
field_types = Plain basic.Byte ∷ Variant ∷ []

abbrev field_kind : Kind
field_kind = Struct field_types

-- a header field with the spelling of its variant's type and the value in it
abbrev Whole : Type 0
Whole = ℕ × List ℕ × Value

behind_type : Endian → ℕ → (Kind × List ℕ) × ℕ × List ℕ → Read Whole
behind_type e code kind = value_at e 61 kind.0.0 kind.1 kind.2 >>= λ inner. Ok ((code, kind.0.1, inner.0), inner.1, inner.2)

behind_code : Endian → ℕ × ℕ × List ℕ → Read Whole
behind_code e code = type_at code.1 code.2 >>= λ kind. behind_type e code.0 kind

behind_padding : Endian → Reader Whole
behind_padding e at text = byte_at at text >>= λ code. behind_code e code

whole_at : Endian → Reader Whole
whole_at e at text = padding_at 8 at text >>= λ start. behind_padding e start.1 start.2

as_struct : Whole → Value
as_struct x = value.Struct (value.Byte x.0 ∷ value.Variant x.1 x.2 ∷ [])

as_field : Whole → ℕ × Content
as_field x = (x.0, content_in x.2)

-- the variant
variant_read : (e : Endian) (at : ℕ) (text : List ℕ) → value_at e 62 Variant at text ≡ variant_at (value_at e 61) at text
variant_read e at text = value_opens e 62 Variant at text (omega arith) ∙ rw out_variant refl

byte_read : (e : Endian) (at : ℕ) (text : List ℕ) → value_at e 62 (Plain basic.Byte) at text ≡ as_value value.Byte (byte_at at text)
byte_read e at text = value_opens e 62 (Plain basic.Byte) at text (omega arith) ∙ rw (out_plain basic.Byte) refl

abbrev in_struct : Read (List Value) → Read Value
in_struct read = read >>= λ members. Ok (value.Struct members.0, members.1, members.2)

-- the members, once both are there
abbrev with_first : Value → Read (List Value) → Read (List Value)
with_first v read = read >>= λ others. Ok (v ∷ others.0, others.1, others.2)

abbrev alone : Read Value → Read (List Value)
alone read = read >>= λ second. Ok (second.0 ∷ [], second.1, second.2)

abbrev with_second : Value → Read Value → Read (List Value)
with_second first read = with_first first (alone read)

by_inner : (code : ℕ) (codes : List ℕ) (r : Read Value) → in_struct (with_second (value.Byte code) (r >>= λ inner. Ok (value.Variant codes inner.0, inner.1, inner.2))) ≡ as_value as_struct (r >>= λ inner. Ok ((code, codes, inner.0), inner.1, inner.2))
unfolding as_struct
by_inner code codes (Ok x) = refl
by_inner code codes (Err place) = refl

by_type : (e : Endian) (code : ℕ) (r : Read (Kind × List ℕ)) → in_struct (with_second (value.Byte code) (r >>= λ kind. value_at e 61 kind.0.0 kind.1 kind.2 >>= λ inner. Ok (value.Variant kind.0.1 inner.0, inner.1, inner.2))) ≡ as_value as_struct (r >>= λ kind. behind_type e code kind)
unfolding behind_type
by_type e code (Ok kind) = by_inner code kind.0.1 (value_at e 61 kind.0.0 kind.1 kind.2)
by_type e code (Err place) = refl

by_code : (e : Endian) (r : Read ℕ) → in_struct ((as_value value.Byte r) >>= λ first. with_second first.0 (value_at e 62 Variant first.1 first.2)) ≡ as_value as_struct (r >>= λ code. behind_code e code)
unfolding behind_code variant_at
by_code e (Ok code) = ap (λ (r : Read Value). in_struct (with_second (value.Byte code.0) r)) (variant_read e code.1 code.2) ∙ by_type e code.0 (type_at code.1 code.2)
by_code e (Err place) = refl

members_read : (e : Endian) (at : ℕ) (text : List ℕ) → in_struct (members_at (value_at e 62) field_types at text) ≡ as_value as_struct (behind_padding e at text)
unfolding members_at behind_padding
members_read e at text = ap (λ (r : Read Value). in_struct (r >>= λ first. with_second first.0 (value_at e 62 Variant first.1 first.2))) (byte_read e at text) ∙ by_code e (byte_at at text)

struct_read : (e : Endian) (at : ℕ) (text : List ℕ) → value_at e 63 field_kind at text ≡ as_value as_struct (whole_at e at text)
unfolding struct_at whole_at
struct_read e at text =
    value_opens e 63 field_kind at text (omega arith)
    ∙ rw (out_struct field_types) refl
    ∙ along (padding_at 8 at text) _ _ (λ start. members_read e start.1 start.2)
    ∙ sym (made_of as_struct (padding_at 8 at text) (λ start. behind_padding e start.1 start.2))

-- the type of a signature, without its codes
only_ends : (codes : List ℕ) (end : ℕ) (after : List ℕ) (k : Kind × ℕ × List ℕ) → only_type end after k ≡ as_value (λ (x : Kind × List ℕ). x.0) (one_type_of codes end after k)
only_ends codes end after k = closes (eqb (length k.2) 0) (zeros_at 1 end after)
  where
    closes : (b : Bool) (r : Read (Unit {0})) → cond b (r >>= λ nul. Ok (k.0, nul.1, nul.2)) (Err k.1) ≡ as_value (λ (x : Kind × List ℕ). x.0) (cond b (r >>= λ nul. Ok ((k.0, codes), nul.1, nul.2)) (Err k.1))
    closes true (Ok x) = refl
    closes true (Err place) = refl
    closes false r = refl

type_ends : (at : ℕ) (text : List ℕ) → type_end at text ≡ as_value (λ (x : Kind × List ℕ). x.0) (type_at at text)
unfolding type_end type_at
type_ends at text =
    along (codes_at at text) _ _ (λ c. along (kind_at 32 32 c.0.0 c.0.1) _ _ (λ k. only_ends c.0.1 c.1 c.2 k) ∙ bind_assoc (kind_at 32 32 c.0.0 c.0.1) (λ k. one_type_of c.0.1 c.1 c.2 k) (λ x. Ok (x.0.0, x.1, x.2)))
    ∙ bind_assoc (codes_at at text) (λ c. kind_at 32 32 c.0.0 c.0.1 >>= λ k. one_type_of c.0.1 c.1 c.2 k) (λ x. Ok (x.0.0, x.1, x.2))

content_of_inner : (code : ℕ) (codes : List ℕ) (r : Read Value) → (as_value content_in r >>= λ content. Ok ((code, content.0), content.1, content.2)) ≡ as_value as_field (r >>= λ inner. Ok ((code, codes, inner.0), inner.1, inner.2))
unfolding as_field
content_of_inner code codes (Ok x) = refl
content_of_inner code codes (Err place) = refl

content_of_type : (e : Endian) (code : ℕ) (r : Read (Kind × List ℕ)) → (as_value (λ (x : Kind × List ℕ). x.0) r >>= λ kind. content_at e kind.0 kind.1 kind.2 >>= λ content. Ok ((code, content.0), content.1, content.2)) ≡ as_value as_field (r >>= λ kind. behind_type e code kind)
unfolding content_at behind_type
content_of_type e code (Ok kind) = content_of_inner code kind.0.1 (value_at e 61 kind.0.0 kind.1 kind.2)
content_of_type e code (Err place) = refl

content_of_code : (e : Endian) (code : ℕ × ℕ × List ℕ) → (type_end code.1 code.2 >>= λ kind. content_at e kind.0 kind.1 kind.2 >>= λ content. Ok ((code.0, content.0), content.1, content.2)) ≡ as_value as_field (behind_code e code)
unfolding behind_code
content_of_code e code = ap (λ (r : Read Kind). r >>= λ kind. content_at e kind.0 kind.1 kind.2 >>= λ content. Ok ((code.0, content.0), content.1, content.2)) (type_ends code.1 code.2) ∙ content_of_type e code.0 (type_at code.1 code.2)

field_read : (e : Endian) (at : ℕ) (text : List ℕ) → field_at e at text ≡ as_value as_field (whole_at e at text)
unfolding field_at whole_at behind_padding
field_read e at text =
    along (padding_at 8 at text) _ (λ start. as_value as_field (byte_at start.1 start.2 >>= λ code. behind_code e code))
    (λ start. along (byte_at start.1 start.2) _ (λ code. as_value as_field (behind_code e code)) (λ code. content_of_code e code) ∙ sym (made_of as_field (byte_at start.1 start.2) (λ code. behind_code e code)))
    ∙ sym (made_of as_field (padding_at 8 at text) (λ start. byte_at start.1 start.2 >>= λ code. behind_code e code))

-- ---- all fields

abbrev known_items : Known → Read (List Value) → Option Known
known_items known read = option_and_then (λ x. known_from x.0 known) (result_ok read)

none_goes_on : (v : Value) (known : Known) (r : Read (List Value)) → item_in v known ≡ None → None ≡ known_items known (with_first v r)
none_goes_on v known (Ok x) is = sym (ap (option_and_then (known_from x.0)) is)
none_goes_on v known (Err place) is = refl

some_goes_on : (v : Value) (known next : Known) (r : Read (List Value)) → item_in v known ≡ Some next → known_items next r ≡ known_items known (with_first v r)
some_goes_on v known next (Ok x) is = sym (ap (option_and_then (known_from x.0)) is)
some_goes_on v known next (Err place) is = refl

abbrev behind_field : Endian → ℕ → Known × ℕ × List ℕ → Option Known
behind_field e n found = take_fields e n found.0 found.1 found.2

abbrev Joins : Endian → ℕ → Type 0
Joins e n = (known : Known) (at : ℕ) (text : List ℕ) → take_fields e n known at text ≡ known_items known (items_at (value_at e 63 field_kind) n at text)

by_known : (e : Endian) (n : ℕ) → Joins e n → (v : Value) (known : Known) (at : ℕ) (text : List ℕ) (o : Option Known) → item_in v known ≡ o
    → option_and_then (behind_field e n) (option_map (λ next. (next, at, text)) o) ≡ known_items known (with_first v (items_at (value_at e 63 field_kind) n at text))
by_known e n joins v known at text None is = none_goes_on v known (items_at (value_at e 63 field_kind) n at text) is
by_known e n joins v known at text (Some next) is = joins next at text ∙ some_goes_on v known next (items_at (value_at e 63 field_kind) n at text) is

by_field : (e : Endian) (n : ℕ) → Joins e n → (known : Known) (r : Read Whole)
    → option_and_then (behind_field e n) (option_and_then (taken known) (result_ok (as_value as_field r))) ≡ known_items known (as_value as_struct r >>= λ first. with_first first.0 (items_at (value_at e 63 field_kind) n first.1 first.2))
unfolding as_field as_struct
by_field e n joins known (Ok x) = by_known e n joins (as_struct x.0) known x.1 x.2 (with_field x.0.0 (content_in x.0.2) known) (struct_taken x.0.0 x.0.1 x.0.2 known)
by_field e n joins known (Err place) = refl

all_joined : (e : Endian) (n : ℕ) → Joins e n
unfolding take_fields items_at take_field
all_joined e zero known at [] = refl
all_joined e (suc n) known at [] = refl
all_joined e zero known at (c ∷ text) = refl
all_joined e (suc n) known at (c ∷ text) =
    ap (λ (r : Read _). option_and_then (behind_field e n) (option_and_then (taken known) (result_ok r))) (field_read e at (c ∷ text))
    ∙ by_field e n (all_joined e n) known (whole_at e at (c ∷ text))
    ∙ ap (λ (r : Read Value). known_items known (r >>= λ first. with_first first.0 (items_at (value_at e 63 field_kind) n first.1 first.2))) (sym (struct_read e at (c ∷ text)))

-- ---- the array

field_aligned : alignment field_kind ≡ 8
field_aligned = ap codes_alignment (codes_struct field_types)

out_items : (c : List ℕ) (vs : List Value) → out-Value (value.Array c vs) ≡ Value-F.Array c vs
out_items c vs = ap out-Value (sym (rolls-Array c vs)) ∙ out-roll-Value (Value-F.Array c vs)

items_held : (vs : List Value) → items_in (array_of field_kind vs) ≡ Some vs
unfolding array_of
items_held vs = rw (out_struct field_types, out_items (codes (Array field_kind)) vs) refl

array_read : (e : Endian) (at : ℕ) (text : List ℕ) → value_at e max_open fields_kind at text ≡ (head_at e 8 at text >>= λ h. as_value (array_of field_kind) (contents_at (value_at e 63 field_kind) h.0 h.1 h.2))
array_read e at text =
    value_opens e max_open fields_kind at text (omega arith)
    ∙ rw (out_array field_kind) refl
    ∙ ap (as_value (array_of field_kind)) (array_opens e (alignment field_kind) (value_at e 63 field_kind) at text)
    ∙ made_of (array_of field_kind) (head_at e (alignment field_kind) at text) (λ h. contents_at (value_at e 63 field_kind) h.0 h.1 h.2)
    ∙ ap (λ (n : ℕ). head_at e n at text >>= λ h. as_value (array_of field_kind) (contents_at (value_at e 63 field_kind) h.0 h.1 h.2)) field_aligned

abbrev known_of : Read Value → Option Known
known_of read = option_and_then known_in (result_ok (read >>= λ found. Ok (found.0, found.1)))

either_way : (o : Option Known) (b : Bool) → o ≡ cond b o o
either_way o true = refl
either_way o false = refl

within_items : (n end : ℕ) (text : List ℕ) (r : Read (List Value)) → known_of (as_value (array_of field_kind) (r >>= whole_items n end text)) ≡ cond (ltb (length text) n) None (known_items no_fields r)
within_items n end text (Ok x) = by_test (ltb (length text) n)
  where
    by_test : (b : Bool) → known_of (as_value (array_of field_kind) (cond b (Err end) (Ok (x.0, end, drop n text)))) ≡ cond b None (known_from x.0 no_fields)
    by_test true = refl
    by_test false = ap (option_and_then (λ items. known_from items no_fields)) (items_held x.0)
within_items n end text (Err place) = either_way None (ltb (length text) n)

within_head : (e : Endian) (h : ℕ × ℕ × List ℕ) → known_of (as_value (array_of field_kind) (contents_at (value_at e 63 field_kind) h.0 h.1 h.2)) ≡ fields_within e h
unfolding contents_at
within_head e h =
    let front = take h.0 h.2 in
    within_items h.0 (h.1 + length front) h.2 (items_at (value_at e 63 field_kind) (length front) h.1 front)
    ∙ ap (λ (o : Option Known). cond (ltb (length h.2) h.0) None o) (sym (all_joined e (length front) no_fields h.1 front))

by_head : (e : Endian) (r : Read ℕ) → known_of (r >>= λ h. as_value (array_of field_kind) (contents_at (value_at e 63 field_kind) h.0 h.1 h.2)) ≡ option_and_then (fields_within e) (result_ok r)
by_head e (Ok h) = within_head e h
by_head e (Err place) = refl

pub fields_are : (e : Endian) (bytes : List ℕ) → fields_one_by_one e fields_start bytes ≡ fields_in e bytes
unfolding fields_in
fields_are e bytes = sym (ap known_of (array_read e fields_start (drop fields_start bytes)) ∙ by_head e (head_at e 8 fields_start (drop fields_start bytes)))

-- ---- what a variant holds

-- a value that no known field may hold
abbrev IsAnother : Read Value → Type 0
IsAnother (Ok x) = content_in x.0 ≡ another
IsAnother (Err place) = Unit {0}

another_behind : {A : Type 0} (r : Result A ℕ) (f : A → Read Value) → ((x : A) → IsAnother (f x)) → IsAnother (r >>= f)
another_behind (Ok x) f are = are x
another_behind (Err place) f are = tt

another_made : {A : Type 0} (make : A → Value) → ((x : A) → content_in (make x) ≡ another) → (r : Read A) → IsAnother (as_value make r)
another_made make are (Ok x) = are x.0
another_made make are (Err place) = tt

basic_another : (e : Endian) (b : Basic) (at : ℕ) (text : List ℕ) → told_of b ≡ None → IsAnother (basic_value_at e b at text)
basic_another e basic.Byte at text is = another_made value.Byte (λ n. rw (out_byte n) refl) (byte_at at text)
basic_another e basic.Bool at text is = another_made value.Bool (λ b. ap content_of (ap out-Value (sym (rolls-Bool b)) ∙ out-roll-Value (Value-F.Bool b))) (bool_at e at text)
basic_another e basic.I16 at text is = another_made (λ n. value.I16 (cast_signed w16 n)) (λ n. ap content_of (ap out-Value (sym (rolls-I16 (cast_signed w16 n))) ∙ out-roll-Value (Value-F.I16 (cast_signed w16 n)))) (aligned_at e w16 at text)
basic_another e basic.U16 at text is = another_made value.U16 (λ n. ap content_of (ap out-Value (sym (rolls-U16 n)) ∙ out-roll-Value (Value-F.U16 n))) (aligned_at e w16 at text)
basic_another e basic.I32 at text is = another_made (λ n. value.I32 (cast_signed w32 n)) (λ n. ap content_of (ap out-Value (sym (rolls-I32 (cast_signed w32 n))) ∙ out-roll-Value (Value-F.I32 (cast_signed w32 n)))) (aligned_at e w32 at text)
basic_another e basic.U32 at text is = absurd cc
basic_another e basic.I64 at text is = another_made (λ n. value.I64 (cast_signed w64 n)) (λ n. ap content_of (ap out-Value (sym (rolls-I64 (cast_signed w64 n))) ∙ out-roll-Value (Value-F.I64 (cast_signed w64 n)))) (aligned_at e w64 at text)
basic_another e basic.U64 at text is = another_made value.U64 (λ n. ap content_of (ap out-Value (sym (rolls-U64 n)) ∙ out-roll-Value (Value-F.U64 n))) (aligned_at e w64 at text)
basic_another e basic.Double at text is = another_made value.Double (λ n. ap content_of (ap out-Value (sym (rolls-Double n)) ∙ out-roll-Value (Value-F.Double n))) (aligned_at e w64 at text)
basic_another e basic.Str at text is = absurd cc
basic_another e basic.Path at text is = absurd cc
basic_another e basic.Sig at text is = absurd cc
basic_another e basic.Fd at text is = another_made value.Fd (λ n. ap content_of (ap out-Value (sym (rolls-Fd n)) ∙ out-roll-Value (Value-F.Fd n))) (aligned_at e w32 at text)

array_another : (element : Kind) (vs : List Value) → content_in (array_of element vs) ≡ another
unfolding array_of
array_another element vs = by_packing (packing_of (out-Kind element))
  where
    by_packing : (o : Option (List Value → Packed)) → content_in (array_by element o vs) ≡ another
    by_packing (Some pack) = ap content_of (ap out-Value (sym (rolls-Packed (pack vs))) ∙ out-roll-Value (Value-F.Packed (pack vs)))
    by_packing None = ap content_of (out_items (codes (Array element)) vs)

layer_another : (e : Endian) (kind : Kind) (layer : Kind-F Kind) (at : ℕ) (text : List ℕ) → told_by layer ≡ None → IsAnother (value_by e (value_at e 60) (entry_at e 60) kind layer at text)
unfolding variant_at struct_at
layer_another e kind (Kind-F.Basic b) at text is = basic_another e b at text is
layer_another e kind Kind-F.Variant at text is =
    another_behind (type_at at text) _ (λ k. another_behind (value_at e 60 k.0.0 k.1 k.2) _ (λ inner. ap content_of (out_inner k.0.1 inner.0)))
layer_another e kind (Kind-F.Array element) at text is = another_made (array_of element) (array_another element) (array_at e (alignment element) (value_at e 60 element) at text)
layer_another e kind (Kind-F.Dict key inner) at text is = another_made (value.Array (codes kind)) (λ vs. ap content_of (out_items (codes kind) vs)) (array_at e 8 (entry_at e 60 key inner) at text)
layer_another e kind (Kind-F.Struct members) at text is =
    another_behind (padding_at 8 at text) _ (λ start. another_behind (members_at (value_at e 60) members start.1 start.2) _ (λ ms. ap content_of (out_members ms.0)))

forgotten : (r : Read Value) → IsAnother r → as_value content_in r ≡ as_value (λ u. another) (forget r)
forgotten (Ok x) is = ap (λ (c : Content). Ok (c, x.1, x.2)) is
forgotten (Err place) is = refl

pub other_content : (e : Endian) (kind : Kind) (at : ℕ) (text : List ℕ) → told_in kind ≡ None → content_at e kind at text ≡ as_value (λ u. another) (value_end e 61 kind at text)
unfolding content_at
other_content e kind at text is =
    forgotten (value_at e 61 kind at text) (subst IsAnother (sym (value_opens e 61 kind at text (omega arith))) (layer_another e kind (out-Kind kind) at text is))
    ∙ ap (as_value (λ u. another)) (sym ((ends_are e 61).values kind at text))

content_plain : {A : Type 0} (make : A → Value) (content : A → Content) → ((x : A) → content_in (make x) ≡ content x) → (r : Read A) → as_value content_in (as_value make r) ≡ as_value content r
content_plain make content same (Ok x) = ap (λ (c : Content). Ok (c, x.1, x.2)) (same x.0)
content_plain make content same (Err place) = refl

basic_told : (e : Endian) (b : Basic) (told : Told) (at : ℕ) (text : List ℕ) → told_of b ≡ Some told → as_value content_in (basic_value_at e b at text) ≡ told_at e told at text
basic_told e basic.Byte told at text is = absurd cc
basic_told e basic.Bool told at text is = absurd cc
basic_told e basic.I16 told at text is = absurd cc
basic_told e basic.U16 told at text is = absurd cc
basic_told e basic.I32 told at text is = absurd cc
basic_told e basic.U32 told at text is =
    let t : tells.Number ≡ told = cc in
    content_plain value.U32 a_number (λ n. ap content_of (out_u32 n)) (aligned_at e w32 at text) ∙ ap (λ (t : Told). told_at e t at text) t
basic_told e basic.I64 told at text is = absurd cc
basic_told e basic.U64 told at text is = absurd cc
basic_told e basic.Double told at text is = absurd cc
basic_told e basic.Str told at text is =
    let t : tells.Text ≡ told = cc in
    content_plain value.Str a_text (λ s. ap content_of (out_str s)) (text_at is_text e at text) ∙ ap (λ (t : Told). told_at e t at text) t
basic_told e basic.Path told at text is =
    let t : tells.Path ≡ told = cc in
    content_plain value.Path a_path (λ s. ap content_of (out_path s)) (text_at is_path_text e at text) ∙ ap (λ (t : Told). told_at e t at text) t
basic_told e basic.Sig told at text is =
    let t : tells.Signature ≡ told = cc in
    content_plain value.Sig a_signature (λ s. ap content_of (out_sig s)) (signature_at at text) ∙ ap (λ (t : Told). told_at e t at text) t
basic_told e basic.Fd told at text is = absurd cc

layer_told : (e : Endian) (kind : Kind) (layer : Kind-F Kind) (told : Told) (at : ℕ) (text : List ℕ) → told_by layer ≡ Some told → as_value content_in (value_by e (value_at e 60) (entry_at e 60) kind layer at text) ≡ told_at e told at text
layer_told e kind (Kind-F.Basic b) told at text is = basic_told e b told at text is
layer_told e kind Kind-F.Variant told at text is = absurd cc
layer_told e kind (Kind-F.Array element) told at text is = absurd cc
layer_told e kind (Kind-F.Dict key inner) told at text is = absurd cc
layer_told e kind (Kind-F.Struct members) told at text is = absurd cc

pub told_content : (e : Endian) (kind : Kind) (told : Told) (at : ℕ) (text : List ℕ) → told_in kind ≡ Some told → content_at e kind at text ≡ told_at e told at text
unfolding content_at
told_content e kind told at text is = ap (as_value content_in) (value_opens e 61 kind at text (omega arith)) ∙ layer_told e kind (out-Kind kind) told at text is

-- ---- the loop over fields

pub take_on : (e : Endian) (n i : ℕ) (known more : Known) (at : ℕ) (text : List ℕ) (next : ℕ) (rest : List ℕ) (all : Option Known)
    → i < n → 0 < length text → take_field e known at text ≡ Some (more, next, rest) → take_fields e (n - i) known at text ≡ all → take_fields e (n - (i + 1)) more next rest ≡ all
unfolding take_fields
take_on e n i known more at [] next rest all lt some is same = absurd (omega arith)
take_on e n i known more at (c ∷ text) next rest all lt some is same =
    let k : n - i ≡ suc (n - (i + 1)) = omega arith in
    let one : take_fields e (n - i) known at (c ∷ text) ≡ take_fields e (n - (i + 1)) more next rest = rw (k, is) refl in
    sym one ∙ same

-- a field at fault
pub take_fails : (e : Endian) (n i : ℕ) (known : Known) (at : ℕ) (text : List ℕ) (all : Option Known)
    → i < n → 0 < length text → take_field e known at text ≡ None → take_fields e (n - i) known at text ≡ all → None ≡ all
unfolding take_fields
take_fails e n i known at [] all lt some is same = absurd (omega arith)
take_fails e n i known at (c ∷ text) all lt some is same =
    let k : n - i ≡ suc (n - (i + 1)) = omega arith in
    let one : take_fields e (n - i) known at (c ∷ text) ≡ None = rw (k, is) refl in
    sym one ∙ same

-- the end of the bytes
pub take_done : (e : Endian) (n : ℕ) (known : Known) (at : ℕ) (text : List ℕ) (all : Option Known) → length text ≡ 0 → take_fields e n known at text ≡ all → Some known ≡ all
unfolding take_fields
take_done e zero known at [] all none same = same
take_done e (suc n) known at [] all none same = same
take_done e n known at (c ∷ text) all none same = absurd (omega arith)

-- bytes that are left behind as many fields as there were bytes
pub take_left : (e : Endian) (n i : ℕ) (known : Known) (at : ℕ) (text : List ℕ) (all : Option Known) → n ≤ i → 0 < length text → take_fields e (n - i) known at text ≡ all → None ≡ all
unfolding take_fields
take_left e n i known at [] all le some same = absurd (omega arith)
take_left e n i known at (c ∷ text) all le some same =
    let k : n - i ≡ 0 = omega arith in
    let one : take_fields e (n - i) known at (c ∷ text) ≡ None = rw k refl in
    sym one ∙ same

pub take_ends : (e : Endian) (n i : ℕ) (known : Known) (at : ℕ) (text : List ℕ) (all : Option Known) (b : Bool) → b ≡ eqb (length text) 0 → (b ≡ false → n ≤ i) → take_fields e (n - i) known at text ≡ all → MatchBool b (all ≡ Some known) (all ≡ None)
take_ends e n i known at text all true is past same = sym (take_done e (n - i) known at text all (none_left text true is refl) same)
take_ends e n i known at text all false is past same = sym (take_left e n i known at text all (past refl) (some_left text false is refl) same)
