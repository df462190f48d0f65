-- How each value is spelt, one level at a time.
use Rattle.std.proofs.Common.{◌≡◌, ℕ, ◌+◌, ◌-◌, ◌<◌, ◌≤◌, Bool, List, [], ◌∷◌, ◌++◌, length, get_or, take, drop, map, refl, sym, ap, ◌∙◌, append_assoc, arith}
use Rattle.std.specs.Prelude.{ℤ}
use Rattle.std.specs.Int.{w16, w32, w64, cast_unsigned}
use Rattle.std.proofs.lemmas.List.{append-nil, length-append, map-append, take_more, take-append-drop}
use Rattle.dbus_wire.specs.declared.value.Endian.{Endian}
use Rattle.dbus_wire.specs.declared.value.Value.{Value}
use Rattle.dbus_wire.specs.declared.value.Value.TheVariants as value
use Rattle.dbus_wire.specs.declared.value.Value.TheVariants.{rolls-Byte, rolls-Bool, rolls-I16, rolls-U16, rolls-I32, rolls-U32, rolls-I64, rolls-U64, rolls-Double, rolls-Str, rolls-Path, rolls-Sig, rolls-Fd, rolls-Packed, rolls-Array, rolls-Struct, rolls-Pair, rolls-Variant}
use Rattle.dbus_wire.specs.declared.value.Value.TheOpen.{Value-F}
use Rattle.dbus_wire.specs.declared.value.Value.TheViews.{roll-Value}
use Rattle.dbus_wire.specs.declared.value.Value.TheFolds.{fold-roll-Value}
use Rattle.dbus_wire.specs.Spelling.{spelling, spellings, spelling_step, aligned, bit, text_spelling, signature_spelling, array_spelling, behind_padding, in_row, packed_row, padding}
use Rattle.dbus_wire.specs.declared.value.Packed.{Packed}
use Rattle.dbus_wire.specs.Alignment.{element_alignment}
use Rattle.dbus_wire.specs.Packing.{packed_codes}

rolled : (e : Endian) (v : Value) (x : Value-F Value) (at : ℕ) → roll-Value x ≡ v → spelling e v at ≡ spelling e (roll-Value x) at
rolled e v x at is = ap (λ (w : Value). spelling e w at) (sym is)

pub spelt_byte : (e : Endian) (n at : ℕ) → spelling e (value.Byte n) at ≡ n ∷ []
spelt_byte e n at = rolled e (value.Byte n) (Value-F.Byte n) at (rolls-Byte n) ∙ ap (λ (f : ℕ → List ℕ). f at) (fold-roll-Value (ℕ → List ℕ) (spelling_step e) (Value-F.Byte n))

pub spelt_bool : (e : Endian) (b : Bool) (at : ℕ) → spelling e (value.Bool b) at ≡ aligned e w32 (bit b) at
spelt_bool e b at = rolled e (value.Bool b) (Value-F.Bool b) at (rolls-Bool b) ∙ ap (λ (f : ℕ → List ℕ). f at) (fold-roll-Value (ℕ → List ℕ) (spelling_step e) (Value-F.Bool b))

pub spelt_i16 : (e : Endian) (n : ℤ) (at : ℕ) → spelling e (value.I16 n) at ≡ aligned e w16 (cast_unsigned w16 n) at
spelt_i16 e n at = rolled e (value.I16 n) (Value-F.I16 n) at (rolls-I16 n) ∙ ap (λ (f : ℕ → List ℕ). f at) (fold-roll-Value (ℕ → List ℕ) (spelling_step e) (Value-F.I16 n))

pub spelt_u16 : (e : Endian) (n at : ℕ) → spelling e (value.U16 n) at ≡ aligned e w16 n at
spelt_u16 e n at = rolled e (value.U16 n) (Value-F.U16 n) at (rolls-U16 n) ∙ ap (λ (f : ℕ → List ℕ). f at) (fold-roll-Value (ℕ → List ℕ) (spelling_step e) (Value-F.U16 n))

pub spelt_i32 : (e : Endian) (n : ℤ) (at : ℕ) → spelling e (value.I32 n) at ≡ aligned e w32 (cast_unsigned w32 n) at
spelt_i32 e n at = rolled e (value.I32 n) (Value-F.I32 n) at (rolls-I32 n) ∙ ap (λ (f : ℕ → List ℕ). f at) (fold-roll-Value (ℕ → List ℕ) (spelling_step e) (Value-F.I32 n))

pub spelt_u32 : (e : Endian) (n at : ℕ) → spelling e (value.U32 n) at ≡ aligned e w32 n at
spelt_u32 e n at = rolled e (value.U32 n) (Value-F.U32 n) at (rolls-U32 n) ∙ ap (λ (f : ℕ → List ℕ). f at) (fold-roll-Value (ℕ → List ℕ) (spelling_step e) (Value-F.U32 n))

pub spelt_i64 : (e : Endian) (n : ℤ) (at : ℕ) → spelling e (value.I64 n) at ≡ aligned e w64 (cast_unsigned w64 n) at
spelt_i64 e n at = rolled e (value.I64 n) (Value-F.I64 n) at (rolls-I64 n) ∙ ap (λ (f : ℕ → List ℕ). f at) (fold-roll-Value (ℕ → List ℕ) (spelling_step e) (Value-F.I64 n))

pub spelt_u64 : (e : Endian) (n at : ℕ) → spelling e (value.U64 n) at ≡ aligned e w64 n at
spelt_u64 e n at = rolled e (value.U64 n) (Value-F.U64 n) at (rolls-U64 n) ∙ ap (λ (f : ℕ → List ℕ). f at) (fold-roll-Value (ℕ → List ℕ) (spelling_step e) (Value-F.U64 n))

pub spelt_double : (e : Endian) (n at : ℕ) → spelling e (value.Double n) at ≡ aligned e w64 n at
spelt_double e n at = rolled e (value.Double n) (Value-F.Double n) at (rolls-Double n) ∙ ap (λ (f : ℕ → List ℕ). f at) (fold-roll-Value (ℕ → List ℕ) (spelling_step e) (Value-F.Double n))

pub spelt_fd : (e : Endian) (n at : ℕ) → spelling e (value.Fd n) at ≡ aligned e w32 n at
spelt_fd e n at = rolled e (value.Fd n) (Value-F.Fd n) at (rolls-Fd n) ∙ ap (λ (f : ℕ → List ℕ). f at) (fold-roll-Value (ℕ → List ℕ) (spelling_step e) (Value-F.Fd n))

pub spelt_str : (e : Endian) (t : List ℕ) (at : ℕ) → spelling e (value.Str t) at ≡ text_spelling e t at
spelt_str e t at = rolled e (value.Str t) (Value-F.Str t) at (rolls-Str t) ∙ ap (λ (f : ℕ → List ℕ). f at) (fold-roll-Value (ℕ → List ℕ) (spelling_step e) (Value-F.Str t))

pub spelt_path : (e : Endian) (t : List ℕ) (at : ℕ) → spelling e (value.Path t) at ≡ text_spelling e t at
spelt_path e t at = rolled e (value.Path t) (Value-F.Path t) at (rolls-Path t) ∙ ap (λ (f : ℕ → List ℕ). f at) (fold-roll-Value (ℕ → List ℕ) (spelling_step e) (Value-F.Path t))

pub spelt_sig : (e : Endian) (s : List ℕ) (at : ℕ) → spelling e (value.Sig s) at ≡ signature_spelling s
spelt_sig e s at = rolled e (value.Sig s) (Value-F.Sig s) at (rolls-Sig s) ∙ ap (λ (f : ℕ → List ℕ). f at) (fold-roll-Value (ℕ → List ℕ) (spelling_step e) (Value-F.Sig s))

pub spelt_packed : (e : Endian) (p : Packed) (at : ℕ) → spelling e (value.Packed p) at ≡ array_spelling e (element_alignment (packed_codes p)) (in_row (packed_row e p)) at
spelt_packed e p at = rolled e (value.Packed p) (Value-F.Packed p) at (rolls-Packed p) ∙ ap (λ (f : ℕ → List ℕ). f at) (fold-roll-Value (ℕ → List ℕ) (spelling_step e) (Value-F.Packed p))

pub spelt_array : (e : Endian) (s : List ℕ) (vs : List Value) (at : ℕ) → spelling e (value.Array s vs) at ≡ array_spelling e (element_alignment s) (spellings e vs) at
spelt_array e s vs at = rolled e (value.Array s vs) (Value-F.Array s vs) at (rolls-Array s vs) ∙ ap (λ (f : ℕ → List ℕ). f at) (fold-roll-Value (ℕ → List ℕ) (spelling_step e) (Value-F.Array s vs))

pub spelt_struct : (e : Endian) (vs : List Value) (at : ℕ) → spelling e (value.Struct vs) at ≡ behind_padding 8 (spellings e vs) at
spelt_struct e vs at = rolled e (value.Struct vs) (Value-F.Struct vs) at (rolls-Struct vs) ∙ ap (λ (f : ℕ → List ℕ). f at) (fold-roll-Value (ℕ → List ℕ) (spelling_step e) (Value-F.Struct vs))

pub spelt_pair : (e : Endian) (k v : Value) (at : ℕ) → spelling e (value.Pair k v) at ≡ behind_padding 8 (spellings e (k ∷ v ∷ [])) at
spelt_pair e k v at = rolled e (value.Pair k v) (Value-F.Pair k v) at (rolls-Pair k v) ∙ ap (λ (f : ℕ → List ℕ). f at) (fold-roll-Value (ℕ → List ℕ) (spelling_step e) (Value-F.Pair k v))

pub spelt_variant : (e : Endian) (s : List ℕ) (v : Value) (at : ℕ) → spelling e (value.Variant s v) at ≡ signature_spelling s ++ spelling e v (at + length (signature_spelling s))
spelt_variant e s v at = rolled e (value.Variant s v) (Value-F.Variant s v) at (rolls-Variant s v) ∙ ap (λ (f : ℕ → List ℕ). f at) (fold-roll-Value (ℕ → List ℕ) (spelling_step e) (Value-F.Variant s v))

pub ruleset spelt = (spelt_byte, spelt_bool, spelt_i16, spelt_u16, spelt_i32, spelt_u32, spelt_i64, spelt_u64, spelt_double, spelt_fd, spelt_str, spelt_path, spelt_sig, spelt_packed, spelt_array, spelt_struct, spelt_pair, spelt_variant)

-- ---- rows

pub spellings_append : (e : Endian) (xs ys : List Value) (at : ℕ) → spellings e (xs ++ ys) at ≡ spellings e xs at ++ spellings e ys (at + length (spellings e xs at))
spellings_append e [] ys at = ap (spellings e ys) (let h : at ≡ at + 0 = omega arith in h)
spellings_append e (x ∷ xs) ys at =
    let first = spelling e x at in
    let here = at + length first in
    ap (λ (t : List ℕ). first ++ t) (spellings_append e xs ys here)
    ∙ sym (append_assoc first (spellings e xs here) (spellings e ys (here + length (spellings e xs here))))
    ∙ ap (λ (n : ℕ). (first ++ spellings e xs here) ++ spellings e ys n) (let h : here + length (spellings e xs here) ≡ at + length (first ++ spellings e xs here) = omega (arith, length-append first (spellings e xs here)) in h)

-- one more value
pub spellings_more : (e : Endian) (vs : List Value) (i at : ℕ) (v : Value) → i < length vs → v ≡ get_or vs i v
    → spellings e (take (i + 1) vs) at ≡ spellings e (take i vs) at ++ spelling e v (at + length (spellings e (take i vs) at))
spellings_more e vs i at v lt is =
    ap (λ (xs : List Value). spellings e xs at) (take_more vs i v lt ∙ ap (λ (x : Value). take i vs ++ x ∷ []) (sym is))
    ∙ spellings_append e (take i vs) (v ∷ []) at
    ∙ ap (λ (t : List ℕ). spellings e (take i vs) at ++ t) (append-nil (spelling e v (at + length (spellings e (take i vs) at))))

-- where bytes end that count from an origin, when more are appended
pub ends_behind : (base more : List ℕ) (origin : ℕ) → origin ≤ length base → length (base ++ more) - origin ≡ (length base - origin) + length more
ends_behind base more origin le = omega (arith, le, length-append base more)

pub still_behind : (base more new : List ℕ) (origin : ℕ) → origin ≤ length base → new ≡ base ++ more → origin ≤ length new
still_behind base more new origin le is = omega (arith, le, ap length is, length-append base more)

-- a key and a value behind padding, and a value behind its signature
pub pair_pushed : (e : Endian) (key inner : Value) (origin : ℕ) (old padded keyed new : List ℕ) → origin ≤ length old → padded ≡ old ++ padding 8 (length old - origin) → keyed ≡ padded ++ spelling e key (length padded - origin)
    → new ≡ keyed ++ spelling e inner (length keyed - origin) → new ≡ old ++ spelling e (value.Pair key inner) (length old - origin)
pair_pushed e key inner origin old padded keyed new le pads keys is =
    let at = length old - origin in
    let pad = padding 8 at in
    let first = spelling e key (at + length pad) in
    let start : length padded - origin ≡ at + length pad = ap (λ (t : List ℕ). length t - origin) pads ∙ ends_behind old pad origin le in
    let behind : keyed ≡ padded ++ first = keys ∙ ap (λ (n : ℕ). padded ++ spelling e key n) start in
    let later : origin ≤ length padded = omega (arith, le, ap length pads, length-append old pad) in
    let middle : length keyed - origin ≡ at + length pad + length first = ap (λ (t : List ℕ). length t - origin) behind ∙ ends_behind padded first origin later ∙ ap (λ (n : ℕ). n + length first) start in
    let second = spelling e inner (at + length pad + length first) in
    is
    ∙ ap (λ (n : ℕ). keyed ++ spelling e inner n) middle
    ∙ ap (λ (t : List ℕ). t ++ second) (behind ∙ ap (λ (t : List ℕ). t ++ first) pads)
    ∙ append_assoc (old ++ pad) first second
    ∙ append_assoc old pad (first ++ second)
    ∙ ap (λ (t : List ℕ). old ++ t) (ap (λ (t : List ℕ). pad ++ (first ++ t)) (sym (append-nil second)) ∙ sym (spelt_pair e key inner at))

pub variant_pushed : (e : Endian) (codes : List ℕ) (inner : Value) (origin : ℕ) (old signed new : List ℕ) → origin ≤ length old → signed ≡ old ++ signature_spelling codes
    → new ≡ signed ++ spelling e inner (length signed - origin) → new ≡ old ++ spelling e (value.Variant codes inner) (length old - origin)
variant_pushed e codes inner origin old signed new le signs is =
    let at = length old - origin in
    let head = signature_spelling codes in
    let here : length signed - origin ≡ at + length head = ap (λ (t : List ℕ). length t - origin) signs ∙ ends_behind old head origin le in
    let text = spelling e inner (at + length head) in
    is
    ∙ ap (λ (n : ℕ). signed ++ spelling e inner n) here
    ∙ ap (λ (t : List ℕ). t ++ text) signs
    ∙ append_assoc old head text
    ∙ ap (λ (t : List ℕ). old ++ t) (sym (spelt_variant e codes inner at))

-- what a loop over values has written so far
pub row_goes_on : (e : Endian) (vs : List Value) (i : ℕ) (v : Value) (base out new : List ℕ) (origin : ℕ) → i < length vs → v ≡ get_or vs i v → origin ≤ length base
    → out ≡ base ++ spellings e (take i vs) (length base - origin) → new ≡ out ++ spelling e v (length out - origin) → new ≡ base ++ spellings e (take (i + 1) vs) (length base - origin)
row_goes_on e vs i v base out new origin lt is le before after =
    let from = length base - origin in
    let row = spellings e (take i vs) from in
    let here : length out - origin ≡ from + length row = ap (λ (t : List ℕ). length t - origin) before ∙ ends_behind base row origin le in
    after ∙ ap (λ (t : List ℕ). t ++ spelling e v (length out - origin)) before
    ∙ append_assoc base row (spelling e v (length out - origin))
    ∙ ap (λ (t : List ℕ). base ++ t) (ap (λ (n : ℕ). row ++ spelling e v n) here ∙ sym (spellings_more e vs i from v lt is))

-- numbers in a row
in_row_append : (xs ys : List (ℕ → List ℕ)) (at : ℕ) → in_row (xs ++ ys) at ≡ in_row xs at ++ in_row ys (at + length (in_row xs at))
in_row_append [] ys at = ap (in_row ys) (let h : at ≡ at + 0 = omega arith in h)
in_row_append (x ∷ xs) ys at =
    let first = x at in
    let here = at + length first in
    ap (λ (t : List ℕ). first ++ t) (in_row_append xs ys here)
    ∙ sym (append_assoc first (in_row xs here) (in_row ys (here + length (in_row xs here))))
    ∙ ap (λ (n : ℕ). (first ++ in_row xs here) ++ in_row ys n) (let h : here + length (in_row xs here) ≡ at + length (first ++ in_row xs here) = omega (arith, length-append first (in_row xs here)) in h)

in_row_more : {A : Type 0} (spelt : A → ℕ → List ℕ) (xs : List A) (i at : ℕ) (x : A) → i < length xs → x ≡ get_or xs i x
    → in_row (map spelt (take (i + 1) xs)) at ≡ in_row (map spelt (take i xs)) at ++ spelt x (at + length (in_row (map spelt (take i xs)) at))
in_row_more {A} spelt xs i at x lt is =
    let front = map spelt (take i xs) in
    ap (λ (ys : List A). in_row (map spelt ys) at) (take_more xs i x lt ∙ ap (λ (y : A). take i xs ++ y ∷ []) (sym is))
    ∙ ap (λ (fs : List (ℕ → List ℕ)). in_row fs at) (map-append spelt (take i xs) (x ∷ []))
    ∙ in_row_append front (spelt x ∷ []) at
    ∙ ap (λ (t : List ℕ). in_row front at ++ t) (append-nil (spelt x (at + length (in_row front at))))

pub numbers_go_on : {A : Type 0} (spelt : A → ℕ → List ℕ) (xs : List A) (i : ℕ) (x : A) (base out new : List ℕ) (origin : ℕ) → i < length xs → x ≡ get_or xs i x → origin ≤ length base
    → out ≡ base ++ in_row (map spelt (take i xs)) (length base - origin) → new ≡ out ++ spelt x (length out - origin) → new ≡ base ++ in_row (map spelt (take (i + 1) xs)) (length base - origin)
numbers_go_on spelt xs i x base out new origin lt is le before after =
    let from = length base - origin in
    let row = in_row (map spelt (take i xs)) from in
    let here : length out - origin ≡ from + length row = ap (λ (t : List ℕ). length t - origin) before ∙ ends_behind base row origin le in
    after ∙ ap (λ (t : List ℕ). t ++ spelt x (length out - origin)) before
    ∙ append_assoc base row (spelt x (length out - origin))
    ∙ ap (λ (t : List ℕ). base ++ t) (ap (λ (n : ℕ). row ++ spelt x n) here ∙ sym (in_row_more spelt xs i from x lt is))

-- one of several values is no longer than all of them
pub item_short : (e : Endian) (vs : List Value) (i : ℕ) (v : Value) (base out : List ℕ) (origin bound : ℕ) → i < length vs → v ≡ get_or vs i v → origin ≤ length base
    → out ≡ base ++ spellings e (take i vs) (length base - origin) → length (spellings e vs (length base - origin)) < bound → length (spelling e v (length out - origin)) < bound
item_short e vs i v base out origin bound lt is le before short =
    let from = length base - origin in
    let row = spellings e (take i vs) from in
    let here : length out - origin ≡ from + length row = ap (λ (t : List ℕ). length t - origin) before ∙ ends_behind base row origin le in
    let more = spellings_more e vs i from v lt is in
    let split : spellings e vs from ≡ spellings e (take (i + 1) vs) from ++ spellings e (drop (i + 1) vs) (from + length (spellings e (take (i + 1) vs) from))
    = ap (λ (xs : List Value). spellings e xs from) (sym (take-append-drop (i + 1) vs)) ∙ spellings_append e (take (i + 1) vs) (drop (i + 1) vs) from in
    rw here (omega (arith, short, ap length split ∙ length-append (spellings e (take (i + 1) vs) from) _, ap length more ∙ length-append row (spelling e v (from + length row))))
