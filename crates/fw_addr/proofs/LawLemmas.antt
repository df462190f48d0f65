-- What was printed is read back: the pieces of printed texts.
use Rattle.std.proofs.Common.{◌≡◌, ℕ, ◌+◌, ◌*◌, ◌/◌, ◌%◌, ◌^◌, ◌<◌, ◌≤◌, Bool, true, false, cond, not, ◌&&◌, eqb, List, [], ◌∷◌, ◌++◌, length, Option, Some, None, refl, sym, ap, ◌∙◌, arith}
use Rattle.std.specs.Char.{digit_value, is_ascii_digit}
use Rattle.std.specs.Fmt.{decimal, digit_glyph}
use Rattle.std.specs.List.{join_with_byte, list_all}
use Rattle.std.specs.Str.{all_ascii_digits}
use Rattle.std.specs.Str.Parse.{AllDigits}
use Rattle.std.proofs.lemmas.Bool.{and_parts, eq-eqb, eqb-true, ne_eqb, false_from_ne_true, lt-ltb, le-leb}
use Rattle.std.proofs.lemmas.Fmt.{decimal_is_IsNumeral}
use Rattle.std.proofs.Common.{lit≤, lit<, get_or, unwrap_or}
use Rattle.std.specs.Option.{option_eq}
use Rattle.std.specs.Str.{bytes_eq}
use Rattle.std.proofs.lemmas.Bool.{agree_below_at, not-true, false≢true}
use Rattle.std.proofs.lemmas.Fmt.{digits_decimal, decimal_nonempty}
use Rattle.std.proofs.lemmas.Nat.{shr-shr, shr_split, mod_below}
use Rattle.std.proofs.lemmas.Slice.Eq.{bytes_eq-Decides}
use Rattle.std.proofs.lemmas.Str.Parse.{numerals_by_value, tells_all_ascii_digits}
use Rattle.fw_text.specs.Names.{named, name_of}
use Rattle.fw_addr.specs.Addresses.{ipv4, octets}
use Rattle.fw_addr.specs.Canonical.{ipv4_text}
use Rattle.fw_addr.specs.Hardware.{hex_octet, hex_octets, mac, mac_text}
use Rattle.fw_addr.specs.Hexadecimal.{hex_byte}
use Rattle.fw_addr.specs.Protocols.{proto, proto_names, proto_text}
use Rattle.fw_text.specs.Number.{number, number_to}
use Rattle.fw_text.specs.Pieces.{pieces}
use Rattle.fw_addr.specs.Ports.{Range, port, port_range, ports_text}

-- a byte doesn't occur
abbrev pub Lacks : ℕ → List ℕ → Type 0
Lacks byte [] = Unit {0}
Lacks byte (first ∷ text) = (eqb first byte ≡ false) × Lacks byte text

-- no digit of that radix is a separator
pub digits_lack : (radix separator : ℕ) (text : List ℕ) → radix ≤ digit_value separator → AllDigits radix text → Lacks separator text
digits_lack radix separator [] high all = tt
digits_lack radix separator (first ∷ text) high all =
    (ne_eqb first separator (λ is. absurd (omega (arith, all.0, high, ap digit_value is))), digits_lack radix separator text high all.1)

-- the pieces of a text that lacks the separator, and of one with a separator behind that
pub pieces_last : (separator : ℕ) (text : List ℕ) → Lacks separator text → pieces separator text ≡ text ∷ []
pieces_last separator [] lacks = refl
pieces_last separator (first ∷ text) lacks = rw (lacks.0, pieces_last separator text lacks.1) refl

pub pieces_next : (separator : ℕ) (front text : List ℕ) → Lacks separator front → pieces separator (front ++ separator ∷ text) ≡ front ∷ pieces separator text
pieces_next separator [] text lacks = rw (eq-eqb separator separator refl) refl
pieces_next separator (first ∷ front) text lacks = rw (lacks.0, pieces_next separator front text lacks.1) refl

-- decimal numbers are read back
abbrev pub ReadsDecimals : Type 0
ReadsDecimals = (n : ℕ) → n < 2 ^ 64 → number (decimal n) ≡ Some n

pub number_to-decimal : ReadsDecimals → (most n : ℕ) → n ≤ most → n < 2 ^ 64 → number_to most (decimal n) ≡ Some n
number_to-decimal reads most n within small = rw (reads n small, le-leb n most within) refl

pub decimal_lacks : (separator n : ℕ) → 10 ≤ digit_value separator → n < 2 ^ 64 → Lacks separator (decimal n)
decimal_lacks separator n high small = digits_lack 10 separator (decimal n) high (decimal_is_IsNumeral n small).0.1

pub ports_back : ReadsDecimals → (range : Range) → range.first ≤ range.last → range.last < 2 ^ 16 → port_range (ports_text range) ≡ Some range
ports_back reads range ordered small = by_test (eqb range.first range.last) refl
  where
    read_first : port (decimal range.first) ≡ Some range.first
    read_first = number_to-decimal reads 65535 range.first (omega arith) (omega arith)

    read_last : port (decimal range.last) ≡ Some range.last
    read_last = number_to-decimal reads 65535 range.last (omega arith) (omega arith)

    lacks : (n : ℕ) → n < 2 ^ 16 → Lacks 45 (decimal n)
    lacks n fits = decimal_lacks 45 n (lit≤ tt) (omega arith)

    by_test : (t : Bool) → eqb range.first range.last ≡ t → port_range (cond t (decimal range.first) (decimal range.first ++ 45 ∷ decimal range.last)) ≡ Some range
    by_test true same =
        let is : range.first ≡ range.last = eqb-true range.first range.last same in
        rw (pieces_last 45 (decimal range.first) (lacks range.first (omega arith)), read_first, le-leb range.first range.first (omega arith)) (ap (λ (n : ℕ). Some (record { first = range.first; last = n })) is)
    by_test false differ =
        rw (pieces_next 45 (decimal range.first) (decimal range.last) (lacks range.first (omega arith)), pieces_last 45 (decimal range.last) (lacks range.last small), read_first, read_last, le-leb range.first range.last ordered) refl

-- texts joined by a separator that none of them has are the pieces again
abbrev pub AllLack : ℕ → List (List ℕ) → Type 0
AllLack byte [] = Unit {0}
AllLack byte (text ∷ texts) = Lacks byte text × AllLack byte texts

pub pieces_join : (separator : ℕ) (first : List ℕ) (others : List (List ℕ)) → Lacks separator first → AllLack separator others → pieces separator (join_with_byte separator (first ∷ others)) ≡ first ∷ others
pieces_join separator first [] lacks all = pieces_last separator first lacks
pieces_join separator first (next ∷ others) lacks all =
    pieces_next separator first (join_with_byte separator (next ∷ others)) lacks ∙ ap (λ (rest : List (List ℕ)). first ∷ rest) (pieces_join separator next others all.0 all.1)

pub lacks_append : (byte : ℕ) (front text : List ℕ) → Lacks byte front → Lacks byte text → Lacks byte (front ++ text)
lacks_append byte [] text lacks others = others
lacks_append byte (first ∷ front) text lacks others = (lacks.0, lacks_append byte front text lacks.1 others)

pub lacks_join : (separator byte : ℕ) (first : List ℕ) (others : List (List ℕ)) → eqb separator byte ≡ false → Lacks byte first → AllLack byte others → Lacks byte (join_with_byte separator (first ∷ others))
lacks_join separator byte first [] other lacks all = lacks
lacks_join separator byte first (next ∷ others) other lacks all =
    lacks_append byte first (separator ∷ join_with_byte separator (next ∷ others)) lacks (other, lacks_join separator byte next others other all.0 all.1)

-- the digits of a number in a base of 2 ^ j, one more of them
pub recompose : (n k j : ℕ) → n / 2 ^ (k + j) * 2 ^ j + n / 2 ^ k % 2 ^ j ≡ n / 2 ^ k
recompose n k j = rw (← shr-shr n k j) (shr_split (n / 2 ^ k) j)

pub lowest : (n j : ℕ) → n / 2 ^ j * 2 ^ j + n % 2 ^ j ≡ n
lowest n j = shr_split n j

-- hexadecimal digits
is_digit_value : ℕ → Bool
is_digit_value d = eqb (digit_value (digit_glyph false d)) d && not (eqb (digit_glyph false d) 58)

pub glyph_value : (d : ℕ) → d < 16 → digit_value (digit_glyph false d) ≡ d
unfolding is_digit_value
glyph_value d small = eqb-true _ _ (and_parts _ _ (agree_below_at is_digit_value (λ _. true) 16 d refl small)).0

pub glyph_lacks : (d : ℕ) → d < 16 → eqb (digit_glyph false d) 58 ≡ false
unfolding is_digit_value
glyph_lacks d small = not-true _ (and_parts _ _ (agree_below_at is_digit_value (λ _. true) 16 d refl small)).1

octet_back : (n : ℕ) → n < 256 → hex_octet (hex_byte n) ≡ Some n
octet_back n small =
    let high = glyph_value (n / 16) (omega arith) in
    let low = glyph_value (n % 16) (omega arith) in
    rw (high, low, lt-ltb (n / 16) 16 (omega arith), lt-ltb (n % 16) 16 (omega arith)) (ap Some (omega arith))

octet_lacks : (n : ℕ) → n < 256 → Lacks 58 (hex_byte n)
octet_lacks n small = (glyph_lacks (n / 16) (omega arith), (glyph_lacks (n % 16) (omega arith), tt))

pub mac_back : (n : ℕ) → n < 2 ^ 48 → mac (mac_text n) ≡ Some n
mac_back n small =
    let a : n / 2 ^ 40 < 256 = omega arith in
    let low = λ (k : ℕ). mod_below (n / 2 ^ k) 256 (lit< tt) in
    let parts = pieces_join 58 (hex_byte (n / 2 ^ 40)) (hex_byte (n / 2 ^ 32 % 256) ∷ hex_byte (n / 2 ^ 24 % 256) ∷ hex_byte (n / 2 ^ 16 % 256) ∷ hex_byte (n / 2 ^ 8 % 256) ∷ hex_byte (n % 256) ∷ [])
    (octet_lacks _ a) (octet_lacks _ (low 32), (octet_lacks _ (low 24), (octet_lacks _ (low 16), (octet_lacks _ (low 8), (octet_lacks _ (mod_below n 256 (lit< tt)), tt))))) in
    ap hex_octets parts
    ∙ rw (octet_back _ a, octet_back _ (low 32), octet_back _ (low 24), octet_back _ (low 16), octet_back _ (low 8), octet_back _ (mod_below n 256 (lit< tt)))
    (ap Some (rw (recompose n 32 8, recompose n 24 8, recompose n 16 8, recompose n 8 8) (lowest n 8)))

pub ipv4_back : ReadsDecimals → (n : ℕ) → n < 2 ^ 32 → ipv4 (ipv4_text n) ≡ Some n
ipv4_back reads n small =
    let a : n / 2 ^ 24 < 256 = omega arith in
    let low = λ (k : ℕ). mod_below (n / 2 ^ k) 256 (lit< tt) in
    let lacks = λ (m : ℕ) (fits : m < 256). decimal_lacks 46 m (lit≤ tt) (omega (arith, fits)) in
    let back = λ (m : ℕ) (fits : m < 256). number_to-decimal reads 255 m (omega (arith, fits)) (omega (arith, fits)) in
    let parts = pieces_join 46 (decimal (n / 2 ^ 24)) (decimal (n / 2 ^ 16 % 256) ∷ decimal (n / 2 ^ 8 % 256) ∷ decimal (n % 256) ∷ [])
    (lacks _ a) (lacks _ (low 16), (lacks _ (low 8), (lacks _ (mod_below n 256 (lit< tt)), tt))) in
    ap octets parts
    ∙ rw (back _ a, back _ (low 16), back _ (low 8), back _ (mod_below n 256 (lit< tt)))
    (ap Some (rw (recompose n 16 8, recompose n 8 8) (lowest n 8)))

-- a row's name stands for its number
is_named : List (List ℕ × ℕ) → List ℕ × ℕ → Bool
is_named all row = option_eq eqb (named all row.0) (Some row.1)

is_named_at : (all : List (List ℕ × ℕ)) (row : List ℕ × ℕ) → is_named all row ≡ true → named all row.0 ≡ Some row.1
unfolding is_named
is_named_at all row is = tells (named all row.0) is
  where
    tells : (found : Option ℕ) → option_eq eqb found (Some row.1) ≡ true → found ≡ Some row.1
    tells None is = absurd (cc)
    tells (Some n) is = ap Some (eqb-true n row.1 is)

all_digits_decimal : (n : ℕ) → n < 2 ^ 64 → all_ascii_digits (decimal n) ≡ true
all_digits_decimal n small = digits_decimal (numerals_by_value (λ text. all_ascii_digits text ≡ true) tells_all_ascii_digits) n small

first_digit : (text : List ℕ) → 0 < length text → all_ascii_digits text ≡ true → is_ascii_digit (get_or text 0 0) ≡ true
first_digit [] some all = absurd (omega arith)
first_digit (first ∷ text) some all = (and_parts (is_ascii_digit first) (all_ascii_digits text) all).0

-- a table whose names are told apart
named_back : (all rows : List (List ℕ × ℕ)) → list_all (λ row. is_named all row) rows ≡ true → (n : ℕ) (name : List ℕ) → name_of rows n ≡ Some name → named all name ≡ Some n
named_back all [] tells n name found = absurd (cc)
named_back all (row ∷ rows) tells n name found =
    let parts = and_parts (is_named all row) (list_all (λ next. is_named all next) rows) tells in
    by_test (eqb row.1 n) refl found (named_back all rows parts.1 n name)
  where
    by_test : (t : Bool) → eqb row.1 n ≡ t → cond t (Some row.0) (name_of rows n) ≡ Some name → (name_of rows n ≡ Some name → named all name ≡ Some n) → named all name ≡ Some n
    by_test true same found later =
        let name_is : row.0 ≡ name = cc in
        let number_is : row.1 ≡ n = eqb-true row.1 n same in
        rw (← name_is, ← number_is) (is_named_at all row (and_parts (is_named all row) (list_all (λ next. is_named all next) rows) tells).0)
    by_test false differ found later = later found

-- no name begins with a digit
unnamed : (rows : List (List ℕ × ℕ)) (text : List ℕ) → list_all (λ row. not (is_ascii_digit (get_or row.0 0 0))) rows ≡ true → is_ascii_digit (get_or text 0 0) ≡ true → named rows text ≡ None
unnamed [] text letters digit = refl
unnamed (row ∷ rows) text letters digit =
    let parts = and_parts (not (is_ascii_digit (get_or row.0 0 0))) (list_all (λ next. not (is_ascii_digit (get_or next.0 0 0))) rows) letters in
    let differs : bytes_eq text row.0 ≡ false = false_from_ne_true (bytes_eq text row.0) (λ same.
    let is : text ≡ row.0 = (bytes_eq-Decides text row.0).0 same in
    false≢true (sym (not-true _ parts.0) ∙ ap (λ (name : List ℕ). is_ascii_digit (get_or name 0 0)) (sym is) ∙ digit)) in
    rw (differs, unnamed rows text parts.1 digit) refl

proto_names_tell : list_all (λ row. is_named proto_names row) proto_names ≡ true
unfolding is_named
proto_names_tell = refl

pub proto_back : ReadsDecimals → (n : ℕ) → n < 256 → proto (proto_text n) ≡ Some n
proto_back reads n small = by_name (name_of proto_names n) refl
  where
    digit : is_ascii_digit (get_or (decimal n) 0 0) ≡ true
    digit = first_digit (decimal n) (decimal_nonempty n (omega arith)) (all_digits_decimal n (omega arith))

    by_name : (found : Option (List ℕ)) → name_of proto_names n ≡ found → proto (unwrap_or found (decimal n)) ≡ Some n
    by_name (Some name) is = rw (named_back proto_names proto_names proto_names_tell n name is) refl
    by_name None is = rw (unnamed proto_names (decimal n) refl digit) (number_to-decimal reads 255 n (omega arith) (omega arith))

-- an IPv4 text has no `/`
pub ipv4_lacks : (n : ℕ) → n < 2 ^ 32 → Lacks 47 (ipv4_text n)
ipv4_lacks n small =
    let lacks = λ (m : ℕ) (fits : m < 256). decimal_lacks 47 m (lit≤ tt) (omega (arith, fits)) in
    let low = λ (k : ℕ). mod_below (n / 2 ^ k) 256 (lit< tt) in
    let a : n / 2 ^ 24 < 256 = omega arith in
    lacks_join 46 47 (decimal (n / 2 ^ 24)) (decimal (n / 2 ^ 16 % 256) ∷ decimal (n / 2 ^ 8 % 256) ∷ decimal (n % 256) ∷ []) refl
    (lacks _ a) (lacks _ (low 16), (lacks _ (low 8), (lacks _ (mod_below n 256 (lit< tt)), tt)))
