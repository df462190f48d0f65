-- At offsets that are eights apart values have the same spelling, since no alignment is more than 8.
use Rattle.std.proofs.Common.{◌≡◌, ℕ, zero, suc, ◌+◌, ◌-◌, ◌%◌, ◌≤◌, Bool, true, false, cond, List, [], ◌∷◌, ◌++◌, length, Option, Some, None, refl, sym, ap, subst, ◌∙◌, arith, inl, inr, ◌⊎◌, eqb}
use Rattle.std.specs.Prelude.{◌||◌, unwrap_or, replicate}
use Rattle.std.specs.Int.{Width, w16, w32, w64, byte_len, cast_signed, cast_unsigned}
use Rattle.dbus_signature.specs.declared.kind.Basic.{Basic}
use Rattle.dbus_signature.specs.declared.kind.Basic.TheVariants as basic
use Rattle.dbus_signature.specs.declared.kind.Kind.{Kind}
use Rattle.dbus_signature.specs.declared.kind.Kind.TheVariants.{Variant, Array, Dict, Struct}
use Rattle.dbus_signature.specs.declared.kind.Kind.TheViews.{out-Kind}
use Rattle.dbus_signature.specs.declared.kind.Kind.TheOpen.{Kind-F}
use Rattle.dbus_signature.specs.Types.{codes}
use Rattle.dbus_signature.proofs.KindLaws.{by_kind}
use Rattle.dbus_wire.specs.declared.value.Endian.{Endian}
use Rattle.dbus_wire.specs.declared.value.Value.{Value}
use Rattle.dbus_wire.specs.declared.value.Value.TheVariants as value
use Rattle.dbus_wire.specs.Alignment.{alignment, codes_alignment, letter_alignment}
use Rattle.dbus_wire.specs.Fields.{gap}
use Rattle.dbus_wire.specs.Packing.{array_of}
use Rattle.dbus_wire.specs.Spelling.{aligned, array_spelling, bit, padding, signature_spelling, spelling, spellings, text_spelling, to_bytes}
use Rattle.dbus_wire.specs.Values.{max_array}
use Rattle.dbus_wire.specs.Fits.{Said, Each, Members, IsArray, IsBasic, IsOpen, IsClosed, IsPair, Fits, FitsEntry}
use Rattle.dbus_wire.proofs.ArraySpelling.{elements_spelt, entries_spelt, first_at, fits_plain, Plainly, SpeltAs}
use Rattle.dbus_wire.proofs.Some.{out_plain, out_variant, out_array, out_dict, out_struct}
use Rattle.dbus_wire.proofs.SpellingLaws.{spelt_bool, spelt_byte, spelt_double, spelt_fd, spelt_i16, spelt_i32, spelt_i64, spelt_pair, spelt_path, spelt_sig, spelt_str, spelt_struct, spelt_u16, spelt_u32, spelt_u64, spelt_variant}

-- offsets that are eights apart
abbrev pub Apart : ℕ → ℕ → Type 0
Apart at to = at % 8 ≡ to % 8

abbrev IsEighth : ℕ → Type 0
IsEighth align = (align ≡ 1) ⊎ ((align ≡ 2) ⊎ ((align ≡ 4) ⊎ (align ≡ 8)))

gap_same : (align at to : ℕ) → IsEighth align → Apart at to → gap align at ≡ gap align to
gap_same align at to (inl is) apart = rw is (let same : (1 - at % 1) % 1 ≡ (1 - to % 1) % 1 = omega arith in same)
gap_same align at to (inr (inl is)) apart = rw is (let same : (2 - at % 2) % 2 ≡ (2 - to % 2) % 2 = omega arith in same)
gap_same align at to (inr (inr (inl is))) apart = rw is (let same : (4 - at % 4) % 4 ≡ (4 - to % 4) % 4 = omega arith in same)
gap_same align at to (inr (inr (inr is))) apart = rw is (let same : (8 - at % 8) % 8 ≡ (8 - to % 8) % 8 = omega arith in same)

padding_same : (align at to : ℕ) → IsEighth align → Apart at to → padding align at ≡ padding align to
padding_same align at to is apart = ap (λ (n : ℕ). replicate n 0) (gap_same align at to is apart)

by_tests : (a b c d : Bool) → IsEighth (unwrap_or (cond a (Some 1) (cond b (Some 2) (cond c (Some 4) (cond d (Some 8) None)))) 1)
by_tests true b c d = inl refl
by_tests false true c d = inr (inl refl)
by_tests false false true d = inr (inr (inl refl))
by_tests false false false true = inr (inr (inr refl))
by_tests false false false false = inl refl

codes_eighth : (letters : List ℕ) → IsEighth (codes_alignment letters)
codes_eighth [] = inl refl
codes_eighth (c ∷ others) =
    by_tests (eqb c 121 || eqb c 103 || eqb c 118) (eqb c 110 || eqb c 113)
    (eqb c 98 || eqb c 105 || eqb c 117 || eqb c 115 || eqb c 111 || eqb c 97 || eqb c 104)
    (eqb c 120 || eqb c 116 || eqb c 100 || eqb c 40 || eqb c 123)

-- What is said of a value is said of it at offsets that are eights apart, and its spelling is the same there.
abbrev Stays : Endian → Said → Type 0
Stays e said = (at to : ℕ) (v : Value) → Apart at to → said at v → said to v × (spelling e v at ≡ spelling e v to)

-- ---- values that hold no others

aligned_same : (e : Endian) (w : Width) (n at to : ℕ) → IsEighth (byte_len w) → Apart at to → aligned e w n at ≡ aligned e w n to
aligned_same e w n at to is apart = ap (λ (t : List ℕ). t ++ to_bytes e w n) (padding_same (byte_len w) at to is apart)

text_same : (e : Endian) (text : List ℕ) (at to : ℕ) → Apart at to → text_spelling e text at ≡ text_spelling e text to
text_same e text at to apart = ap (λ (t : List ℕ). t ++ (text ++ 0 ∷ [])) (aligned_same e w32 (length text) at to (inr (inr (inl refl))) apart)

spelt_same : (e : Endian) (v : Value) (spelt : ℕ → List ℕ) (at to : ℕ) → ((n : ℕ) → spelling e v n ≡ spelt n) → spelt at ≡ spelt to → spelling e v at ≡ spelling e v to
spelt_same e v spelt at to is same = is at ∙ same ∙ sym (is to)

basic_same : (e : Endian) (b : Basic) (at to : ℕ) (v : Value) → Apart at to → IsBasic b v → spelling e v at ≡ spelling e v to
basic_same e basic.Byte at to v apart is = rw is.1 (spelt_same e (value.Byte is.0) (λ n. is.0 ∷ []) at to (spelt_byte e is.0) refl)
basic_same e basic.Bool at to v apart is = rw is.1 (spelt_same e (value.Bool is.0) (aligned e w32 (bit is.0)) at to (spelt_bool e is.0) (aligned_same e w32 (bit is.0) at to (inr (inr (inl refl))) apart))
basic_same e basic.I16 at to v apart is = let n = cast_signed w16 is.0 in rw is.1 (spelt_same e (value.I16 n) (aligned e w16 (cast_unsigned w16 n)) at to (spelt_i16 e n) (aligned_same e w16 (cast_unsigned w16 n) at to (inr (inl refl)) apart))
basic_same e basic.U16 at to v apart is = rw is.1 (spelt_same e (value.U16 is.0) (aligned e w16 is.0) at to (spelt_u16 e is.0) (aligned_same e w16 is.0 at to (inr (inl refl)) apart))
basic_same e basic.I32 at to v apart is = let n = cast_signed w32 is.0 in rw is.1 (spelt_same e (value.I32 n) (aligned e w32 (cast_unsigned w32 n)) at to (spelt_i32 e n) (aligned_same e w32 (cast_unsigned w32 n) at to (inr (inr (inl refl))) apart))
basic_same e basic.U32 at to v apart is = rw is.1 (spelt_same e (value.U32 is.0) (aligned e w32 is.0) at to (spelt_u32 e is.0) (aligned_same e w32 is.0 at to (inr (inr (inl refl))) apart))
basic_same e basic.I64 at to v apart is = let n = cast_signed w64 is.0 in rw is.1 (spelt_same e (value.I64 n) (aligned e w64 (cast_unsigned w64 n)) at to (spelt_i64 e n) (aligned_same e w64 (cast_unsigned w64 n) at to (inr (inr (inr refl))) apart))
basic_same e basic.U64 at to v apart is = rw is.1 (spelt_same e (value.U64 is.0) (aligned e w64 is.0) at to (spelt_u64 e is.0) (aligned_same e w64 is.0 at to (inr (inr (inr refl))) apart))
basic_same e basic.Double at to v apart is = rw is.1 (spelt_same e (value.Double is.0) (aligned e w64 is.0) at to (spelt_double e is.0) (aligned_same e w64 is.0 at to (inr (inr (inr refl))) apart))
basic_same e basic.Str at to v apart is = rw is.1 (spelt_same e (value.Str is.0) (text_spelling e is.0) at to (spelt_str e is.0) (text_same e is.0 at to apart))
basic_same e basic.Path at to v apart is = rw is.1 (spelt_same e (value.Path is.0) (text_spelling e is.0) at to (spelt_path e is.0) (text_same e is.0 at to apart))
basic_same e basic.Sig at to v apart is = rw is.1 (spelt_same e (value.Sig is.0) (λ n. signature_spelling is.0) at to (spelt_sig e is.0) refl)
basic_same e basic.Fd at to v apart is = rw is.1 (spelt_same e (value.Fd is.0) (aligned e w32 is.0) at to (spelt_fd e is.0) (aligned_same e w32 is.0 at to (inr (inr (inl refl))) apart))

-- ---- containers

-- behind the same bytes offsets are still eights apart
apart_behind : (at to : ℕ) (s t : List ℕ) → Apart at to → s ≡ t → Apart (at + length s) (to + length t)
apart_behind at to s t apart same = omega (arith, ap length same)

joined_same : (a b c d : List ℕ) → a ≡ b → c ≡ d → a ++ c ≡ b ++ d
joined_same a b c d one two = ap (λ (t : List ℕ). t ++ c) one ∙ ap (λ (t : List ℕ). b ++ t) two

each_stays : (e : Endian) (said : Said) → Stays e said → (vs : List Value) (at to : ℕ) → Apart at to → Each e said vs at → Each e said vs to × (spellings e vs at ≡ spellings e vs to)
each_stays e said stays [] at to apart each = (tt, refl)
each_stays e said stays (v ∷ vs) at to apart each =
    let first = stays at to v apart each.0 in
    let others = each_stays e said stays vs (at + length (spelling e v at)) (to + length (spelling e v to)) (apart_behind at to (spelling e v at) (spelling e v to) apart first.1) each.1 in
    ((first.0, others.0), joined_same _ _ _ _ first.1 others.1)

pub members_stay : (e : Endian) (said : Kind → Said) → ((k : Kind) → Stays e (said k)) → (ks : List Kind) (vs : List Value) (at to : ℕ) → Apart at to → Members e said ks vs at → Members e said ks vs to × (spellings e vs at ≡ spellings e vs to)
members_stay e said stays [] [] at to apart each = (tt, refl)
members_stay e said stays [] (v ∷ vs) at to apart each = absurd each
members_stay e said stays (k ∷ ks) [] at to apart each = absurd each
members_stay e said stays (k ∷ ks) (v ∷ vs) at to apart each =
    let first = stays k at to v apart each.0 in
    let others = members_stay e said stays ks vs (at + length (spelling e v at)) (to + length (spelling e v to)) (apart_behind at to (spelling e v at) (spelling e v to) apart first.1) each.1 in
    ((first.0, others.0), joined_same _ _ _ _ first.1 others.1)

array_stays : (e : Endian) (align : ℕ) (said : Said) (make : List Value → Value) → IsEighth align → Stays e said → SpeltAs e align said make → Stays e (IsArray e align said make)
array_stays e align said make eighth stays spelt at to v apart is =
    let pad : padding 4 at ≡ padding 4 to = padding_same 4 at to (inr (inr (inl refl))) apart in
    let behind : Apart (at + length (padding 4 at)) (to + length (padding 4 to)) = apart_behind at to (padding 4 at) (padding 4 to) apart pad in
    let place = at + length (padding 4 at) + 4 in
    let place_to = to + length (padding 4 to) + 4 in
    let four : Apart place place_to = omega (arith, behind) in
    let gap_is : padding align place ≡ padding align place_to = padding_same align place place_to eighth four in
    let start : Apart (first_at align at) (first_at align to) = apart_behind place place_to (padding align place) (padding align place_to) four gap_is in
    let each = each_stays e said stays is.0 (first_at align at) (first_at align to) start is.2 in
    let number : to_bytes e w32 (length (spellings e is.0 (first_at align at))) ≡ to_bytes e w32 (length (spellings e is.0 (first_at align to))) = ap (λ (t : List ℕ). to_bytes e w32 (length t)) each.1 in
    let whole : array_spelling e align (spellings e is.0) at ≡ array_spelling e align (spellings e is.0) to = joined_same _ _ _ _ pad (joined_same _ _ _ _ number (joined_same _ _ _ _ gap_is each.1)) in
    let short : length (spellings e is.0 (first_at align to)) ≤ max_array = subst (λ (t : List ℕ). length t ≤ max_array) each.1 is.3 in
    ((is.0, is.1, each.0, short), rw is.1 (spelt is.0 at is.2 ∙ whole ∙ sym (spelt is.0 to each.0)))

struct_stays : (e : Endian) (said : Kind → Said) (entry : Basic → Kind → Said) → ((k : Kind) → Stays e (said k)) → (kind : Kind) (ks : List Kind) → Stays e (IsOpen e said entry kind (Kind-F.Struct ks))
struct_stays e said entry stays kind ks at to v apart is =
    let pad : padding 8 at ≡ padding 8 to = padding_same 8 at to (inr (inr (inr refl))) apart in
    let each = members_stay e said stays ks is.0 (at + length (padding 8 at)) (to + length (padding 8 to)) (apart_behind at to (padding 8 at) (padding 8 to) apart pad) is.3 in
    ((is.0, is.1, is.2, each.0), rw is.1 (spelt_struct e is.0 at ∙ joined_same _ _ _ _ pad each.1 ∙ sym (spelt_struct e is.0 to)))

variant_stays : (e : Endian) (said : Kind → Said) (entry : Basic → Kind → Said) → ((k : Kind) → Stays e (said k)) → (kind : Kind) → Stays e (IsOpen e said entry kind Kind-F.Variant)
variant_stays e said entry stays kind at to v apart is =
    let head = signature_spelling is.0 in
    let inner = stays is.1 (at + length head) (to + length head) is.2 (apart_behind at to head head apart refl) is.5 in
    ((is.0, is.1, is.2, is.3, is.4, inner.0), rw is.3 (spelt_variant e is.0 is.2 at ∙ joined_same head head _ _ refl inner.1 ∙ sym (spelt_variant e is.0 is.2 to)))

pair_stays : (e : Endian) (key : Basic) (said : Said) → Stays e said → Stays e (IsPair e key said)
pair_stays e key said stays at to v apart is =
    let pad : padding 8 at ≡ padding 8 to = padding_same 8 at to (inr (inr (inr refl))) apart in
    let start = at + length (padding 8 at) in
    let start_to = to + length (padding 8 to) in
    let begins : Apart start start_to = apart_behind at to (padding 8 at) (padding 8 to) apart pad in
    let first : spelling e is.0 start ≡ spelling e is.0 start_to = basic_same e key start start_to is.0 begins is.3 in
    let second = stays (start + length (spelling e is.0 start)) (start_to + length (spelling e is.0 start_to)) is.1 (apart_behind start start_to (spelling e is.0 start) (spelling e is.0 start_to) begins first) is.4 in
    ((is.0, is.1, is.2, is.3, second.0), rw is.2 (spelt_pair e is.0 is.1 at ∙ joined_same _ _ _ _ pad (joined_same _ _ _ _ first (joined_same _ _ _ _ second.1 refl)) ∙ sym (spelt_pair e is.0 is.1 to)))

open_stays : (e : Endian) (said : Kind → Said) (entry : Basic → Kind → Said) → ((k : Kind) → Stays e (said k)) → ((b : Basic) (k : Kind) → Stays e (entry b k)) → Plainly said → (kind : Kind) → Stays e (IsOpen e said entry kind (out-Kind kind))
open_stays e said entry stays stays_entry plain = by_kind (λ kind. Stays e (IsOpen e said entry kind (out-Kind kind)))
    (λ b. rw (out_plain b) (λ at to v apart is. (is, basic_same e b at to v apart is)))
    (rw out_variant (variant_stays e said entry stays Variant))
    (λ el. rw (out_array el) (array_stays e (alignment el) (said el) (array_of el) (codes_eighth (codes el)) (stays el) (elements_spelt e said plain el)))
    (λ b el. rw (out_dict b el) (array_stays e 8 (entry b el) (value.Array (codes (Dict b el))) (inr (inr (inr refl))) (stays_entry b el) (entries_spelt e (entry b el) b el)))
    (λ ks. rw (out_struct ks) (struct_stays e said entry stays (Struct ks) ks))

closed_stays : (e : Endian) (kind : Kind) → Stays e (λ at v. IsClosed (out-Kind kind) v)
closed_stays e = by_kind (λ kind. Stays e (λ at v. IsClosed (out-Kind kind) v))
    (λ b. rw (out_plain b) (λ at to v apart is. (is, basic_same e b at to v apart is)))
    (rw out_variant (λ at to v apart is. absurd is))
    (λ el. rw (out_array el) (λ at to v apart is. absurd is))
    (λ b el. rw (out_dict b el) (λ at to v apart is. absurd is))
    (λ ks. rw (out_struct ks) (λ at to v apart is. absurd is))

pub record AllStay (e : Endian) (room : ℕ) : Type 0 where
  pub values : (k : Kind) → Stays e (Fits e room k)
  pub entries : (b : Basic) (k : Kind) → Stays e (FitsEntry e room b k)

pub all_stay : (e : Endian) (room : ℕ) → AllStay e room
unfolding Fits
all_stay e zero = record {
  values = λ k. closed_stays e k;
  entries = λ b k at to v apart is. absurd is;
}
all_stay e (suc room) =
    let below = all_stay e room in
    record {
      values = λ k. open_stays e (Fits e room) (FitsEntry e room) below.values below.entries (fits_plain e room) k;
      entries = λ b k. pair_stays e b (Fits e room k) (below.values k);
    }
