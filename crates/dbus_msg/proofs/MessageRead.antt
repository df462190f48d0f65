-- A message that is written is read as the same message.
use Rattle.std.proofs.Common.{◌≡◌, ℕ, ◌+◌, ◌-◌, ◌^◌, ◌<◌, ◌≤◌, Bool, true, false, not, eqb, leb, eq-eqb, List, [], ◌∷◌, ◌++◌, length, take, drop, Option, Some, None, Ok, refl, sym, ap, subst, ◌∙◌, append_assoc, arith}
use Rattle.std.specs.Prelude.{replicate, zero, suc, ◌&&◌, option_and_then}
use Rattle.std.specs.Int.{w32}
use Rattle.std.proofs.lemmas.Bool.{and_from, le-leb, ne_eqb}
use Rattle.std.proofs.lemmas.List.{append-nil, drop_at, length-append, length-replicate, take_at}
use Rattle.dbus_signature.specs.declared.kind.Basic.TheVariants as basic
use Rattle.dbus_signature.specs.declared.kind.Kind.{Kind}
use Rattle.dbus_signature.specs.declared.kind.Kind.TheVariants.{Basic as Plain, Variant, Array, Struct}
use Rattle.dbus_signature.specs.declared.kind.Kind.TheOpen.{Kind-F}
use Rattle.dbus_signature.specs.Types.{codes}
use Rattle.dbus_signature.specs.Signatures.{all_kinds, IsSignature}
use Rattle.dbus_signature.proofs.KindLaws.{codes_struct}
use Rattle.dbus_wire.specs.declared.value.Endian.TheVariants.{Little}
use Rattle.dbus_wire.specs.declared.value.Value.{Value}
use Rattle.dbus_wire.specs.declared.value.Value.TheVariants as value
use Rattle.dbus_wire.specs.declared.value.Value.TheVariants.{rolls-Array}
use Rattle.dbus_wire.specs.declared.value.Value.TheOpen.{Value-F}
use Rattle.dbus_wire.specs.declared.value.Value.TheViews.{out-Value, out-roll-Value}
use Rattle.dbus_wire.specs.Alignment.{alignment, element_alignment}
use Rattle.dbus_wire.specs.Fields.{gap}
use Rattle.dbus_wire.specs.Packing.{array_of}
use Rattle.dbus_wire.proofs.ArrayLaws.{held_as_values, other_struct}
use Rattle.dbus_wire.specs.Fits.{Fits, IsArray, Members, Spells}
use Rattle.dbus_wire.specs.Spelling.{array_spelling, padding, spelling, spellings, to_bytes}
use Rattle.dbus_wire.specs.TypeCodes.{types_codes}
use Rattle.dbus_wire.specs.Values.{max_array, max_open, members_at, value_at, value_of, values_of}
use Rattle.dbus_wire.proofs.Again.{wide32}
use Rattle.dbus_wire.proofs.RoundTrip.{spelt_is_read}
use Rattle.dbus_wire.proofs.Some.{array_aligned, out_array}
use Rattle.dbus_wire.proofs.SpellingLaws.{spelt_array}
use Rattle.dbus_wire.proofs.ValueAgain.{all_read, members_again}
use Rattle.dbus_msg.specs.declared.header.Header.{Header}
use Rattle.dbus_msg.specs.declared.known.Known.{Known}
use Rattle.dbus_msg.specs.declared.message.Message.{Message}
use Rattle.dbus_msg.specs.Headers.{body_start, fields_end, header_in, header_of, is_sound, max_message, number_in, sound_header, whole_len}
use Rattle.dbus_msg.specs.Known.{has_required, known_from, no_fields}
use Rattle.dbus_msg.specs.Messages.{are_zeros, body_in, fields_in, fields_kind, gap_is_zero, message_of, to_the_end, with_fields, with_header}
use Rattle.dbus_msg.specs.Written.{body_bytes, fields_bytes, fields_gap, header_fields, IsMessage, written, written_body_start, written_fields_end}
use Rattle.dbus_msg.proofs.BodyLaws.{body_found, types_of}
use Rattle.dbus_msg.proofs.FieldLaws.{names_short}
use Rattle.dbus_msg.proofs.FieldsRead.{body_signature, fields_are_items, fields_taken, item_kind, opened}
use Rattle.dbus_msg.proofs.PatchLaws.{body_short, fields_len_short, written_len}

-- the header of a message that is written
abbrev pub header_written : Message → Header
header_written m = record { endian = Little; kind = m.kind; flags = m.flags; serial = m.serial; body_len = length (body_bytes m); fields_len = length (fields_bytes m) }

-- ---- the fixed part

body_len_read : (m : Message) → IsMessage m → number_in Little 4 (written m) ≡ length (body_bytes m)
unfolding written
body_len_read m is = (wide32 Little).again (length (body_bytes m)) (body_short m is)

serial_read : (m : Message) → IsMessage m → number_in Little 8 (written m) ≡ m.serial
unfolding written
serial_read m is = (wide32 Little).again m.serial is.serial_fits

fields_len_read : (m : Message) → IsMessage m → number_in Little 12 (written m) ≡ length (fields_bytes m)
unfolding written
fields_len_read m is = (wide32 Little).again (length (fields_bytes m)) (fields_len_short m is)

header_in_written : (m : Message) → IsMessage m → header_in Little (written m) ≡ header_written m
unfolding written
header_in_written m is = rw (body_len_read m is, serial_read m is, fields_len_read m is) refl

-- ---- lengths

fields_end_is : (m : Message) → fields_end (header_written m) ≡ written_fields_end m
fields_end_is m = omega arith

body_start_is : (m : Message) → body_start (header_written m) ≡ written_body_start m
body_start_is m =
    ap (λ (n : ℕ). n + gap 8 n) (fields_end_is m) ∙ ap (λ (n : ℕ). written_fields_end m + n) (sym (length-replicate (gap 8 (written_fields_end m)) 0))

pub whole_len_is : (m : Message) → whole_len (header_written m) ≡ length (written m)
whole_len_is m = ap (λ (n : ℕ). n + length (body_bytes m)) (body_start_is m) ∙ sym (written_len m)

not_zero : (n : ℕ) → 0 < n → not (eqb n 0) ≡ true
not_zero n some = rw (ne_eqb n 0 (λ none. omega (arith, none, some))) refl

sound : (m : Message) → IsMessage m → is_sound 1 (header_written m) ≡ true
sound m is =
    and_from _ _ (not_zero m.kind is.kind)
    (and_from _ _ (not_zero m.serial is.serial)
    (and_from _ _ (le-leb (length (fields_bytes m)) max_array is.fields_short) (le-leb _ max_message (omega (arith, whole_len_is m, is.short)))))

sound_so : (version : ℕ) (h : Header) → is_sound version h ≡ true → sound_header version h ≡ Some h
sound_so version h is = rw is refl

pub header_read : (m : Message) → IsMessage m → header_of (written m) ≡ Some (header_written m)
unfolding written
header_read m is = ap (sound_header 1) (header_in_written m is) ∙ sound_so 1 (header_written m) (sound m is)

-- ---- the header fields

abbrev items : Message → List Value
items m = header_fields m.fields m.body

abbrev fields_value : Message → Value
fields_value m = value.Array (codes fields_kind) (items m)

kind_aligned : alignment item_kind ≡ 8
kind_aligned = rw (codes_struct (Plain basic.Byte ∷ Variant ∷ [])) refl

item_aligned : element_alignment (codes fields_kind) ≡ 8
item_aligned = array_aligned item_kind ∙ kind_aligned

fields_spelt : (m : Message) → spelling Little (fields_value m) 12 ≡ to_bytes Little w32 (length (fields_bytes m)) ++ fields_bytes m
fields_spelt m = spelt_array Little (codes fields_kind) (items m) 12 ∙ ap (λ (n : ℕ). array_spelling Little n (spellings Little (items m)) 12) item_aligned

fields_held : (m : Message) → fields_value m ≡ array_of item_kind (items m)
fields_held m = ap (λ (make : List Value → Value). make (items m)) (sym (held_as_values item_kind (other_struct (Plain basic.Byte ∷ Variant ∷ []))))

fields_fit : (m : Message) → IsMessage m → Fits Little max_open fields_kind 12 (fields_value m)
fields_fit m is =
    opened Little 63 fields_kind (Kind-F.Array item_kind) 12 (fields_value m) (out_array item_kind)
    (subst (λ (n : ℕ). IsArray Little n (Fits Little 63 item_kind) (array_of item_kind) 12 (fields_value m)) (sym kind_aligned) (items m, fields_held m, fields_are_items m.fields m.body is.fields names_short is.body.signature 16, is.fields_short))

fields_behind : (m : Message) → drop 12 (written m) ≡ spelling Little (fields_value m) 12 ++ (fields_gap m ++ body_bytes m)
unfolding written
fields_behind m = sym (ap (λ (t : List ℕ). t ++ (fields_gap m ++ body_bytes m)) (fields_spelt m) ∙ append_assoc (to_bytes Little w32 (length (fields_bytes m))) (fields_bytes m) (fields_gap m ++ body_bytes m))

fields_value_read : (m : Message) → IsMessage m → value_of Little fields_kind 12 (written m) ≡ Ok (fields_value m, 12 + length (spelling Little (fields_value m) 12))
fields_value_read m is =
    spelt_is_read Little fields_kind 12 (written m) (spelling Little (fields_value m) 12) (fields_gap m ++ body_bytes m) (fields_value m) (record { fits = fields_fit m is; bytes_are = refl }) (fields_behind m)

out_items : (s : List ℕ) (vs : List Value) → out-Value (value.Array s vs) ≡ Value-F.Array s vs
out_items s vs = ap out-Value (sym (rolls-Array s vs)) ∙ out-roll-Value (Value-F.Array s vs)

abbrev known_written : Message → Known
known_written m = record { fields = m.fields; signature = body_signature m.body }

fields_read : (m : Message) → IsMessage m → fields_in Little (written m) ≡ Some (known_written m)
unfolding fields_in
fields_read m is =
    rw (fields_value_read m is, out_items (codes fields_kind) (items m)) (fields_taken m.fields m.body is.fields)

-- ---- the gap and the body

zeros_are : (n : ℕ) → are_zeros (replicate n 0) ≡ true
zeros_are zero = refl
zeros_are (suc n) = zeros_are n

abbrev head : Message → List ℕ
head m = 108 ∷ m.kind ∷ m.flags ∷ 1 ∷ (to_bytes Little w32 (length (body_bytes m)) ++ (to_bytes Little w32 m.serial ++ (to_bytes Little w32 (length (fields_bytes m)) ++ fields_bytes m)))

written_parts : (m : Message) → written m ≡ head m ++ (fields_gap m ++ body_bytes m)
unfolding written
written_parts m = refl

gap_behind : (m : Message) → drop (written_fields_end m) (written m) ≡ fields_gap m ++ body_bytes m
gap_behind m = ap (drop (written_fields_end m)) (written_parts m) ∙ drop_at (head m) (fields_gap m ++ body_bytes m) (written_fields_end m) (let h : length (head m) ≡ written_fields_end m = omega arith in h)

body_behind : (m : Message) → drop (written_body_start m) (written m) ≡ body_bytes m
body_behind m =
    ap (drop (written_body_start m)) (written_parts m ∙ sym (append_assoc (head m) (fields_gap m) (body_bytes m)))
    ∙ drop_at (head m ++ fields_gap m) (body_bytes m) (written_body_start m) (let h : length (head m ++ fields_gap m) ≡ written_body_start m = omega (arith, length-append (head m) (fields_gap m)) in h)

zeros_between : (start end : ℕ) (bytes gap rest : List ℕ) → drop end bytes ≡ gap ++ rest → start ≡ end + length gap → are_zeros gap ≡ true → are_zeros (take (start - end) (drop end bytes)) ≡ true
zeros_between start end bytes gap rest split at zeros =
    let count : length gap ≡ start - end = omega (arith, at) in
    ap are_zeros (ap (take (start - end)) split ∙ take_at gap rest (start - end) count) ∙ zeros

gap_read : (m : Message) → gap_is_zero (header_written m) (written m) ≡ true
gap_read m =
    zeros_between (body_start (header_written m)) (fields_end (header_written m)) (written m) (fields_gap m) (body_bytes m)
    (ap (λ (n : ℕ). drop n (written m)) (fields_end_is m) ∙ gap_behind m)
    (body_start_is m ∙ ap (λ (n : ℕ). n + length (fields_gap m)) (sym (fields_end_is m)))
    (zeros_are (gap 8 (written_fields_end m)))

values_read : (m : Message) → (kinds : List Kind) → Members Little (Fits Little max_open) kinds m.body (written_body_start m) → values_of Little kinds (written_body_start m) (written m) ≡ Ok (m.body, length (written m))
values_read m kinds fit =
    let again = members_again Little (value_at Little max_open) (Fits Little max_open) (all_read Little max_open).values kinds m.body (written_body_start m) [] fit in
    let whole : members_at (value_at Little max_open) kinds (written_body_start m) (body_bytes m) ≡ Ok (m.body, written_body_start m + length (body_bytes m), []) = ap (members_at (value_at Little max_open) kinds (written_body_start m)) (sym (append-nil (body_bytes m))) ∙ again in
    rw (body_behind m, whole, ← written_len m) refl

body_read_as : (m : Message) (body : List Value) → body ≡ m.body → (s : IsSignature (types_codes body)) → Members Little (Fits Little max_open) s.kinds m.body (written_body_start m) → body_in Little (body_signature body) (written_body_start m) (written m) ≡ Some m.body
unfolding body_in
body_read_as m [] is s fit =
    let none : body_bytes m ≡ [] = ap (λ (vs : List Value). spellings Little vs (written_body_start m)) (sym is) in
    let end : eqb (written_body_start m) (length (written m)) ≡ true = eq-eqb _ _ (omega (arith, written_len m, ap length none)) in
    rw end (ap (λ (vs : List Value). Some vs) is)
body_read_as m (v ∷ vs) is s fit =
    let end : eqb (length (written m)) (length (written m)) ≡ true = eq-eqb _ _ refl in
    rw (types_of (types_codes (v ∷ vs)) s, values_read m s.kinds fit, end) refl

body_read : (m : Message) → IsMessage m → body_in Little (body_signature m.body) (written_body_start m) (written m) ≡ Some m.body
body_read m is = body_read_as m m.body refl is.body.signature is.body.fits

-- ---- the whole message

with_fields_so : (h : Header) (bytes : List ℕ) (known : Known) (body : List Value) → gap_is_zero h bytes ≡ true → body_in h.endian known.signature (body_start h) bytes ≡ Some body → has_required h.kind known.fields ≡ true
    → with_fields h bytes known ≡ Some (record { kind = h.kind; flags = h.flags; serial = h.serial; fields = known.fields; body = body })
with_fields_so h bytes known body gap read required = rw (gap, read, required) refl

with_header_so : (bytes : List ℕ) (h : Header) (known : Known) (m : Message) → whole_len h ≡ length bytes → fields_in h.endian bytes ≡ Some known → with_fields h bytes known ≡ Some m → with_header bytes h ≡ Some m
with_header_so bytes h known m whole read made =
    let same : eqb (whole_len h) (length bytes) ≡ true = eq-eqb _ _ whole in
    rw (same, read) made

message_so : (bytes : List ℕ) (h : Header) (m : Message) → header_of bytes ≡ Some h → with_header bytes h ≡ Some m → message_of bytes ≡ Some m
unfolding message_of
message_so bytes h m header made = ap (option_and_then (with_header bytes)) header ∙ made

pub message_read : (m : Message) → IsMessage m → message_of (written m) ≡ Some m
message_read m is =
    message_so (written m) (header_written m) m (header_read m is)
    (with_header_so (written m) (header_written m) (known_written m) m (whole_len_is m) (fields_read m is)
    (with_fields_so (header_written m) (written m) (known_written m) m.body (gap_read m) (ap (λ (n : ℕ). body_in Little (body_signature m.body) n (written m)) (body_start_is m) ∙ body_read m is) is.required))

-- behind other bytes
pub message_behind : (m : Message) (old new : List ℕ) → IsMessage m → new ≡ old ++ written m → message_of (drop (length old) new) ≡ Some m
message_behind m old new is appended = ap message_of (ap (drop (length old)) appended ∙ drop_at old (written m) (length old) refl) ∙ message_read m is
