-- Arrays are read by their parts, and those of a fixed basic type at once.
use Rattle.std.proofs.Common.{◌≡◌, ℕ, zero, suc, ◌+◌, ◌-◌, ◌<◌, ◌≤◌, Bool, true, false, eqb, List, [], ◌∷◌, ◌++◌, length, drop, take, map, Option, Some, None, Result, Ok, Err, refl, sym, ap, ◌∙◌, append_assoc, arith}
use Rattle.std.specs.Prelude.{ℤ, nat_lt}
use Rattle.std.specs.Int.{w16, w32, w64, cast_signed}
use Rattle.std.proofs.lemmas.List.{append-nil, length-append}
use Rattle.dbus_signature.specs.declared.kind.Basic.{Basic}
use Rattle.dbus_signature.specs.declared.kind.Basic.TheVariants as basic
use Rattle.dbus_signature.specs.declared.kind.Kind.{Kind}
use Rattle.dbus_signature.specs.declared.kind.Kind.TheVariants.{Basic as Plain, Variant, Array, Dict, Struct}
use Rattle.dbus_signature.specs.declared.kind.Kind.TheViews.{out-Kind}
use Rattle.dbus_signature.specs.declared.kind.Kind.TheOpen.{Kind-F}
use Rattle.dbus_signature.specs.Types.{codes}
use Rattle.dbus_signature.specs.Reading.{Read, Reader, ◌>>=◌}
use Rattle.dbus_wire.specs.declared.value.Endian.{Endian}
use Rattle.dbus_wire.specs.declared.value.Packed.{Packed}
use Rattle.dbus_wire.specs.declared.value.Packed.TheVariants as packed
use Rattle.dbus_wire.specs.declared.value.Value.{Value}
use Rattle.dbus_wire.specs.declared.value.Value.TheVariants as value
use Rattle.dbus_wire.specs.declared.value.Value.TheVariants.{rolls-Byte, rolls-Bool, rolls-I16, rolls-U16, rolls-I32, rolls-U32, rolls-I64, rolls-U64, rolls-Double, rolls-Fd}
use Rattle.dbus_wire.specs.declared.value.Value.TheViews.{out-Value, out-roll-Value}
use Rattle.dbus_wire.specs.declared.value.Value.TheOpen.{Value-F}
use Rattle.dbus_wire.specs.Alignment.{alignment}
use Rattle.dbus_wire.specs.Arrays.{basic_array_at, head_at, is_fixed, row_at, row_in, IsFixed, IsOther}
use Rattle.dbus_wire.specs.Fields.{aligned_at, bool_at, byte_at, number_at, padding_at}
use Rattle.dbus_wire.specs.Packing.{array_by, array_of, number_in, number_of, packing, packing_of, signed_in, signed_of, truth_in, truth_of}
use Rattle.dbus_wire.specs.Spelling.{in_row}
use Rattle.dbus_wire.specs.Values.{array_at, as_value, basic_value_at, contents_at, entry_at, items_at, open_value_at, value_at, value_by, whole_items, within_limit}
use Rattle.dbus_wire.proofs.Some.{out_plain, out_variant, out_array, out_dict, out_struct}
use Rattle.std.proofs.lemmas.Bool.{true≢false}
use Rattle.std.specs.Int.{w32}

-- ---- steps in a row

bind_along : {A B : Type 0} (r : Result A ℕ) (f g : A → Result B ℕ) → ((x : A) → f x ≡ g x) → (r >>= f) ≡ (r >>= g)
bind_along (Ok x) f g same = same x
bind_along (Err place) f g same = refl

pub bind_assoc : {A B C : Type 0} (r : Result A ℕ) (f : A → Result B ℕ) (g : B → Result C ℕ) → (r >>= λ x. f x >>= g) ≡ ((r >>= f) >>= g)
bind_assoc (Ok x) f g = refl
bind_assoc (Err place) f g = refl

made_of : {A B C : Type 0} (f : B → C) (r : Result A ℕ) (k : A → Read B) → as_value f (r >>= k) ≡ (r >>= λ x. as_value f (k x))
made_of f (Ok x) k = refl
made_of f (Err place) k = refl

-- the head of an array, and its contents
pub array_opens : {A : Type 0} (e : Endian) (align : ℕ) (item : Reader A) (at : ℕ) (text : List ℕ) → array_at e align item at text ≡ (head_at e align at text >>= λ h. contents_at item h.0 h.1 h.2)
unfolding array_at head_at
array_opens e align item at text =
    bind_along (padding_at 4 at text) _ _ (λ s. bind_along (number_at e w32 s.1 s.2) _ _ (λ number. bind_along (within_limit s.1 number) _ _ (λ n. bind_assoc (padding_at align n.1 n.2) (λ first. Ok (n.0, first.1, first.2)) (λ h. contents_at item h.0 h.1 h.2))
    ∙ bind_assoc (within_limit s.1 number) _ _) ∙ bind_assoc (number_at e w32 s.1 s.2) _ _) ∙ bind_assoc (padding_at 4 at text) _ _

-- ---- elements of a fixed basic type

whole_made : {A B : Type 0} (f : A → B) (n end : ℕ) (text : List ℕ) (r : Read A) → as_value f (r >>= whole_items n end text) ≡ (as_value f r >>= whole_items n end text)
whole_made f n end text (Err place) = refl
whole_made f n end text (Ok x) = whole_chosen f n end text x (nat_lt (length text) n) refl
  where
    whole_chosen : {A B : Type 0} (f : A → B) (n end : ℕ) (text : List ℕ) (x : A × ℕ × List ℕ) (b : Bool) → nat_lt (length text) n ≡ b → as_value f (whole_items n end text x) ≡ whole_items n end text (f x.0, x.1, x.2)
    whole_chosen f n end text x true is = rw is refl
    whole_chosen f n end text x false is = rw is refl

row_opens : (e : Endian) (b : Basic) (n at : ℕ) (text : List ℕ) → as_value (array_of (Plain b)) (contents_at (basic_value_at e b) n at text) ≡ row_in e b n at text
unfolding contents_at row_in row_at
row_opens e b n at text = whole_made (array_of (Plain b)) n (at + length (take n text)) text (items_at (basic_value_at e b) (length (take n text)) at (take n text))

pub basic_array_opens : (e : Endian) (b : Basic) (at : ℕ) (text : List ℕ) → basic_array_at e b at text ≡ (head_at e (alignment (Plain b)) at text >>= λ h. row_in e b h.0 h.1 h.2)
unfolding basic_array_at
basic_array_opens e b at text =
    ap (as_value (array_of (Plain b))) (array_opens e (alignment (Plain b)) (basic_value_at e b) at text)
    ∙ made_of (array_of (Plain b)) (head_at e (alignment (Plain b)) at text) (λ h. contents_at (basic_value_at e b) h.0 h.1 h.2)
    ∙ bind_along (head_at e (alignment (Plain b)) at text) _ _ (λ h. row_opens e b h.0 h.1 h.2)

-- ---- what is read one by one, made of what is read

items_made : {A B : Type 0} (make : A → B) (item : Reader A) (n at : ℕ) (text : List ℕ) → items_at (λ at text. as_value make (item at text)) n at text ≡ as_value (map make) (items_at item n at text)
unfolding items_at
items_made make item zero at [] = refl
items_made make item (suc n) at [] = refl
items_made make item zero at (c ∷ text) = refl
items_made make item (suc n) at (c ∷ text) = first_made make item n (items_made make item n) (item at (c ∷ text))
  where
    others_made : {A B : Type 0} (make : A → B) (x : A) (r : Read (List A)) → (as_value (map make) r >>= λ others. Ok (make x ∷ others.0, others.1, others.2)) ≡ as_value (map make) (r >>= λ others. Ok (x ∷ others.0, others.1, others.2))
    others_made make x (Ok y) = refl
    others_made make x (Err place) = refl

    first_made : {A B : Type 0} (make : A → B) (item : Reader A) (n : ℕ) → ((at : ℕ) (text : List ℕ) → items_at (λ at text. as_value make (item at text)) n at text ≡ as_value (map make) (items_at item n at text)) → (r : Read A)
        → (as_value make r >>= λ first. items_at (λ at text. as_value make (item at text)) n first.1 first.2 >>= λ others. Ok (first.0 ∷ others.0, others.1, others.2)) ≡ as_value (map make) (r >>= λ first. items_at item n first.1 first.2 >>= λ others. Ok (first.0 ∷ others.0, others.1, others.2))
    first_made make item n same (Ok x) = ap (λ (r : Read _). r >>= λ others. Ok (make x.0 ∷ others.0, others.1, others.2)) (same x.1 x.2) ∙ others_made make x.0 (items_at item n x.1 x.2)
    first_made make item n same (Err place) = refl

made_twice : {A B C : Type 0} (f : B → C) (g : A → B) (h : A → C) → ((x : A) → f (g x) ≡ h x) → (r : Read A) → as_value f (as_value g r) ≡ as_value h r
made_twice f g h same (Ok x) = ap (λ y. Ok (y, x.1, x.2)) (same x.0)
made_twice f g h same (Err place) = refl

-- ---- what is in a value that is a number

pub seen_byte : (n : ℕ) → number_in (value.Byte n) ≡ n
unfolding number_in
seen_byte n = ap number_of (ap out-Value (sym (rolls-Byte n)) ∙ out-roll-Value (Value-F.Byte n))

pub seen_u16 : (n : ℕ) → number_in (value.U16 n) ≡ n
unfolding number_in
seen_u16 n = ap number_of (ap out-Value (sym (rolls-U16 n)) ∙ out-roll-Value (Value-F.U16 n))

pub seen_u32 : (n : ℕ) → number_in (value.U32 n) ≡ n
unfolding number_in
seen_u32 n = ap number_of (ap out-Value (sym (rolls-U32 n)) ∙ out-roll-Value (Value-F.U32 n))

pub seen_u64 : (n : ℕ) → number_in (value.U64 n) ≡ n
unfolding number_in
seen_u64 n = ap number_of (ap out-Value (sym (rolls-U64 n)) ∙ out-roll-Value (Value-F.U64 n))

pub seen_double : (n : ℕ) → number_in (value.Double n) ≡ n
unfolding number_in
seen_double n = ap number_of (ap out-Value (sym (rolls-Double n)) ∙ out-roll-Value (Value-F.Double n))

pub seen_fd : (n : ℕ) → number_in (value.Fd n) ≡ n
unfolding number_in
seen_fd n = ap number_of (ap out-Value (sym (rolls-Fd n)) ∙ out-roll-Value (Value-F.Fd n))

pub seen_i16 : (n : ℤ) → signed_in (value.I16 n) ≡ n
unfolding signed_in
seen_i16 n = ap signed_of (ap out-Value (sym (rolls-I16 n)) ∙ out-roll-Value (Value-F.I16 n))

pub seen_i32 : (n : ℤ) → signed_in (value.I32 n) ≡ n
unfolding signed_in
seen_i32 n = ap signed_of (ap out-Value (sym (rolls-I32 n)) ∙ out-roll-Value (Value-F.I32 n))

pub seen_i64 : (n : ℤ) → signed_in (value.I64 n) ≡ n
unfolding signed_in
seen_i64 n = ap signed_of (ap out-Value (sym (rolls-I64 n)) ∙ out-roll-Value (Value-F.I64 n))

pub seen_bool : (truth : Bool) → truth_in (value.Bool truth) ≡ truth
unfolding truth_in
seen_bool truth = ap truth_of (ap out-Value (sym (rolls-Bool truth)) ∙ out-roll-Value (Value-F.Bool truth))

-- ---- rows of a fixed basic type

picked : {A : Type 0} (pick : Value → A) (make : A → Value) → ((x : A) → pick (make x) ≡ x) → (xs : List A) → map pick (map make xs) ≡ xs
picked pick make same [] = refl
picked pick make same (x ∷ xs) = rw (same x, picked pick make same xs) refl

packs : {A : Type 0} (b : Basic) (pick : Value → A) (make : A → Value) (pack : List A → Packed) → packing b ≡ Some (λ items. pack (map pick items)) → ((x : A) → pick (make x) ≡ x) → (xs : List A) → array_of (Plain b) (map make xs) ≡ value.Packed (pack xs)
unfolding array_of
packs b pick make pack is same xs = rw (out_plain b, is) (ap (λ ys. value.Packed (pack ys)) (picked pick make same xs))

row_packs : {A : Type 0} (e : Endian) (b : Basic) (item : Reader A) (make : A → Value) (pack : List A → Packed) → ((at : ℕ) (text : List ℕ) → basic_value_at e b at text ≡ as_value make (item at text)) → ((xs : List A) → array_of (Plain b) (map make xs) ≡ value.Packed (pack xs))
    → (at : ℕ) (text : List ℕ) → row_at e b at text ≡ as_value (λ xs. value.Packed (pack xs)) (items_at item (length text) at text)
unfolding row_at
row_packs e b item make pack same held at text =
    let read : basic_value_at e b ≡ (λ at text. as_value make (item at text)) = λ i at text. same at text i in
    ap (λ (r : Reader Value). as_value (array_of (Plain b)) (items_at r (length text) at text)) read
    ∙ ap (as_value (array_of (Plain b))) (items_made make item (length text) at text)
    ∙ made_twice (array_of (Plain b)) (map make) (λ xs. value.Packed (pack xs)) held (items_at item (length text) at text)

twice : {A : Type 0} (make : A → Value) (cast : ℕ → A) (r : Read ℕ) → as_value (λ n. make (cast n)) r ≡ as_value make (as_value cast r)
twice make cast r = sym (made_twice make cast (λ n. make (cast n)) (λ x. refl) r)

pub row_bool : (e : Endian) (at : ℕ) (text : List ℕ) → row_at e basic.Bool at text ≡ as_value (λ xs. value.Packed (packed.Bools xs)) (items_at (bool_at e) (length text) at text)
row_bool e = row_packs e basic.Bool (bool_at e) value.Bool packed.Bools (λ at text. refl) (packs basic.Bool truth_in value.Bool packed.Bools refl seen_bool)

pub row_u16 : (e : Endian) (at : ℕ) (text : List ℕ) → row_at e basic.U16 at text ≡ as_value (λ xs. value.Packed (packed.U16s xs)) (items_at (aligned_at e w16) (length text) at text)
row_u16 e = row_packs e basic.U16 (aligned_at e w16) value.U16 packed.U16s (λ at text. refl) (packs basic.U16 number_in value.U16 packed.U16s refl seen_u16)

pub row_u32 : (e : Endian) (at : ℕ) (text : List ℕ) → row_at e basic.U32 at text ≡ as_value (λ xs. value.Packed (packed.U32s xs)) (items_at (aligned_at e w32) (length text) at text)
row_u32 e = row_packs e basic.U32 (aligned_at e w32) value.U32 packed.U32s (λ at text. refl) (packs basic.U32 number_in value.U32 packed.U32s refl seen_u32)

pub row_u64 : (e : Endian) (at : ℕ) (text : List ℕ) → row_at e basic.U64 at text ≡ as_value (λ xs. value.Packed (packed.U64s xs)) (items_at (aligned_at e w64) (length text) at text)
row_u64 e = row_packs e basic.U64 (aligned_at e w64) value.U64 packed.U64s (λ at text. refl) (packs basic.U64 number_in value.U64 packed.U64s refl seen_u64)

pub row_double : (e : Endian) (at : ℕ) (text : List ℕ) → row_at e basic.Double at text ≡ as_value (λ xs. value.Packed (packed.Doubles xs)) (items_at (aligned_at e w64) (length text) at text)
row_double e = row_packs e basic.Double (aligned_at e w64) value.Double packed.Doubles (λ at text. refl) (packs basic.Double number_in value.Double packed.Doubles refl seen_double)

pub row_fd : (e : Endian) (at : ℕ) (text : List ℕ) → row_at e basic.Fd at text ≡ as_value (λ xs. value.Packed (packed.Fds xs)) (items_at (aligned_at e w32) (length text) at text)
row_fd e = row_packs e basic.Fd (aligned_at e w32) value.Fd packed.Fds (λ at text. refl) (packs basic.Fd number_in value.Fd packed.Fds refl seen_fd)

pub row_i16 : (e : Endian) (at : ℕ) (text : List ℕ) → row_at e basic.I16 at text ≡ as_value (λ xs. value.Packed (packed.I16s xs)) (items_at (λ at text. as_value (cast_signed w16) (aligned_at e w16 at text)) (length text) at text)
row_i16 e = row_packs e basic.I16 (λ at text. as_value (cast_signed w16) (aligned_at e w16 at text)) value.I16 packed.I16s (λ at text. twice value.I16 (cast_signed w16) (aligned_at e w16 at text)) (packs basic.I16 signed_in value.I16 packed.I16s refl seen_i16)

pub row_i32 : (e : Endian) (at : ℕ) (text : List ℕ) → row_at e basic.I32 at text ≡ as_value (λ xs. value.Packed (packed.I32s xs)) (items_at (λ at text. as_value (cast_signed w32) (aligned_at e w32 at text)) (length text) at text)
row_i32 e = row_packs e basic.I32 (λ at text. as_value (cast_signed w32) (aligned_at e w32 at text)) value.I32 packed.I32s (λ at text. twice value.I32 (cast_signed w32) (aligned_at e w32 at text)) (packs basic.I32 signed_in value.I32 packed.I32s refl seen_i32)

pub row_i64 : (e : Endian) (at : ℕ) (text : List ℕ) → row_at e basic.I64 at text ≡ as_value (λ xs. value.Packed (packed.I64s xs)) (items_at (λ at text. as_value (cast_signed w64) (aligned_at e w64 at text)) (length text) at text)
row_i64 e = row_packs e basic.I64 (λ at text. as_value (cast_signed w64) (aligned_at e w64 at text)) value.I64 packed.I64s (λ at text. twice value.I64 (cast_signed w64) (aligned_at e w64 at text)) (packs basic.I64 signed_in value.I64 packed.I64s refl seen_i64)

bytes_read : (n at : ℕ) (text : List ℕ) → length text ≤ n → items_at byte_at n at text ≡ Ok (text, at + length text, [])
unfolding items_at byte_at
bytes_read zero at [] le = ap (λ (m : ℕ). Ok ([], m, [])) (let h : at ≡ at + 0 = omega arith in h)
bytes_read (suc n) at [] le = ap (λ (m : ℕ). Ok ([], m, [])) (let h : at ≡ at + 0 = omega arith in h)
bytes_read zero at (c ∷ text) le = absurd (omega arith)
bytes_read (suc n) at (c ∷ text) le = rw (bytes_read n (at + 1) text (omega arith)) (ap (λ (m : ℕ). Ok (c ∷ text, m, [])) (let h : at + 1 + length text ≡ at + suc (length text) = omega arith in h))

pub row_byte : (e : Endian) (at : ℕ) (text : List ℕ) → row_at e basic.Byte at text ≡ Ok (value.Packed (packed.Bytes text), at + length text, [])
row_byte e at text =
    row_packs e basic.Byte byte_at value.Byte packed.Bytes (λ at text. refl) (packs basic.Byte number_in value.Byte packed.Bytes refl seen_byte) at text
    ∙ ap (as_value (λ xs. value.Packed (packed.Bytes xs))) (bytes_read (length text) at text (omega arith))

pub ruleset rows = (row_bool, row_u16, row_u32, row_u64, row_double, row_fd, row_i16, row_i32, row_i64)

pub bytes_in_row : (bytes : List ℕ) (at : ℕ) → in_row (map (λ n at. n ∷ []) bytes) at ≡ bytes
bytes_in_row [] at = refl
bytes_in_row (c ∷ bytes) at = ap (λ (t : List ℕ). c ∷ t) (bytes_in_row bytes (at + 1))

-- ---- an array by the type of its elements

value_plain : (e : Endian) (room : ℕ) (b : Basic) (at : ℕ) (text : List ℕ) → value_at e room (Plain b) at text ≡ basic_value_at e b at text
unfolding value_at
value_plain e zero b at text = rw (out_plain b) refl
value_plain e (suc room) b at text = rw (out_plain b) refl

pub fixed_opens : (e : Endian) (room : ℕ) (kind inner : Kind) (b : Basic) (at : ℕ) (text : List ℕ) → kind ≡ Array inner → IsFixed inner b → open_value_at e room kind at text ≡ basic_array_at e b at text
unfolding basic_array_at
fixed_opens e room kind inner b at text is fixed =
    let read : value_at e room (Plain b) ≡ basic_value_at e b = λ i at text. value_plain e room b at text i in
    rw (is, out_array inner, fixed.plain) (ap (λ (r : Reader Value). as_value (array_of (Plain b)) (array_at e (alignment (Plain b)) r at text)) read)

pub held_as_values : (el : Kind) → IsOther el → array_of el ≡ value.Array (codes (Array el))
unfolding array_of
held_as_values el none = ap (array_by el) none

pub other_opens : (e : Endian) (room : ℕ) (kind inner : Kind) (at : ℕ) (text : List ℕ) → kind ≡ Array inner → IsOther inner → open_value_at e room kind at text ≡ as_value (value.Array (codes kind)) (array_at e (alignment inner) (value_at e room inner) at text)
other_opens e room kind inner at text is none = rw (is, out_array inner) (ap (λ (make : List Value → Value). as_value make (array_at e (alignment inner) (value_at e room inner) at text)) (held_as_values inner none))

pub other_basic : (b : Basic) → is_fixed b ≡ false → IsOther (Plain b)
other_basic b is = rw (out_plain b) (unpacked b is)
  where
    unpacked : (b : Basic) → is_fixed b ≡ false → packing b ≡ None
    unpacked basic.Str is = refl
    unpacked basic.Path is = refl
    unpacked basic.Sig is = refl
    unpacked basic.Byte is = absurd (true≢false is)
    unpacked basic.Bool is = absurd (true≢false is)
    unpacked basic.I16 is = absurd (true≢false is)
    unpacked basic.U16 is = absurd (true≢false is)
    unpacked basic.I32 is = absurd (true≢false is)
    unpacked basic.U32 is = absurd (true≢false is)
    unpacked basic.I64 is = absurd (true≢false is)
    unpacked basic.U64 is = absurd (true≢false is)
    unpacked basic.Double is = absurd (true≢false is)
    unpacked basic.Fd is = absurd (true≢false is)

pub other_variant : IsOther Variant
other_variant = rw out_variant refl

pub other_array : (inner : Kind) → IsOther (Array inner)
other_array inner = rw (out_array inner) refl

pub other_dict : (b : Basic) (inner : Kind) → IsOther (Dict b inner)
other_dict b inner = rw (out_dict b inner) refl

pub other_struct : (ks : List Kind) → IsOther (Struct ks)
other_struct ks = rw (out_struct ks) refl

pub ruleset others = (other_basic, other_variant, other_array, other_dict, other_struct)
