-- Each value of a rule, printed, is read as that value.
use Rattle.std.proofs.Common.{◌≡◌, ◌∙◌, ℕ, zero, suc, ◌+◌, ◌*◌, ◌/◌, ◌%◌, ◌^◌, ◌<◌, ◌≤◌, ◌==◌, nat_lt, Bool, true, false, if◌then◌else◌, not, List, [], ◌∷◌, ◌++◌, length, take, drop, None, Some, IsTrue, ℤ, pos, negsuc, decimal, refl, sym, ap, append-nil, arith, leb→le, length-append, pow-suc}
use Rattle.std.specs.Char.{digit_value, is_digit}
use Rattle.std.specs.Fmt.{digit_glyph, digits, digits_onto, signed_decimal}
use Rattle.std.specs.List.{after_first, before_first, list_all, position_or_len}
use Rattle.std.specs.Option.{option_map}
use Rattle.std.specs.Str.Parse.{AllDigits}
use Rattle.std.proofs.Math.Seq.{drop-append-add, take-append_seam}
use Rattle.std.proofs.lemmas.Bool.{and_parts, eq-eqb, eqb-false, eqb-true, le-leb, le-ltb, lt-ltb, ne_eqb}
use Rattle.std.proofs.lemmas.Fmt.{decimal_is_IsNumeral, digits_is_IsNumeral}
use Rattle.fw_addr.specs.Addresses.{address}
use Rattle.fw_addr.specs.Canonical.{address_text}
use Rattle.fw_addr.specs.Hardware.{mac, mac_text}
use Rattle.fw_addr.specs.Names.{unit_letter}
use Rattle.fw_addr.specs.Nets.{net, net_text}
use Rattle.fw_addr.specs.Ports.{Range, port_range, ports_text}
use Rattle.fw_addr.specs.Protocols.{port_proto, port_proto_text, proto, proto_text}
use Rattle.fw_addr.specs.Subnets.{Subnet, bits as address_bits, is_subnet, width}
use Rattle.fw_addr.specs.declared.addr.Addr.{Addr}
use Rattle.fw_addr.specs.declared.limit.Limit.{Limit}
use Rattle.fw_addr.specs.declared.limit.Unit.{Unit as TimeUnit}
use Rattle.fw_addr.specs.declared.limit.Unit.TheVariants as units
use Rattle.fw_addr.specs.declared.proto.PortProto.{PortProto}
use Rattle.fw_limit.specs.Limits.{is_slash, limit, units as unit_names}
use Rattle.fw_rich.specs.Canonical.{hex_text, mask_text, rate_text}
use Rattle.fw_rich.specs.Numbers.{all_ones, bits, mark, mark_of, priority}
use Rattle.fw_rich.specs.Tokens.{cut_at}
use Rattle.fw_text.specs.Names.{named}
use Rattle.fw_text.specs.Number.{number, number_to}
use Rattle.fw_valid.specs.Riches.{IsLimit, IsPriority}

-- the laws of the crates below
pub record Printed : Type 0 where
  pub decimals : (n : ℕ) → n < 2 ^ 64 → number (decimal n) ≡ Some n
  pub ports : (range : Range) → range.first ≤ range.last → range.last < 2 ^ 16 → port_range (ports_text range) ≡ Some range
  pub protocols : (n : ℕ) → n < 2 ^ 8 → proto (proto_text n) ≡ Some n
  pub port_protocols : (protocol : PortProto) → port_proto (port_proto_text protocol) ≡ Some protocol
  pub macs : (n : ℕ) → n < 2 ^ 48 → mac (mac_text n) ≡ Some n
  pub addresses : (addr : Addr) → address_bits addr < 2 ^ width addr → address (address_text addr) ≡ Some addr
  pub nets : (whole : Subnet) → IsTrue (is_subnet whole) → address_bits whole.address < 2 ^ width whole.address → net (net_text whole) ≡ Some whole

pub number_read : Printed → (most n : ℕ) → n ≤ most → most < 2 ^ 64 → number_to most (decimal n) ≡ Some n
number_read printed most n within small = rw (printed.decimals n (omega (arith, within, small)), le-leb n most within) refl

-- a text that begins with a digit begins with no `-`
from_digit : (text : List ℕ) → 0 < length text → AllDigits 10 text → priority text ≡ option_map pos (number_to 32767 text)
unfolding priority
from_digit [] some all = absurd (omega (arith, some))
from_digit (byte ∷ text) some all =
    rw (ne_eqb byte 45 (λ is. let big : digit_value byte ≡ 36 = ap digit_value is in absurd (omega (arith, big, all.0)))) refl

pub priority_read : Printed → (n : ℤ) → IsPriority n → priority (signed_decimal n) ≡ Some n
unfolding priority
priority_read printed (pos n) is =
    let most : n ≤ 32767 = leb→le n 32767 is.1.le in
    let small : n < 2 ^ 64 = omega (arith, most) in
    let numeral = (decimal_is_IsNumeral n small).0 in
    from_digit (decimal n) numeral.0 numeral.1 ∙ ap (option_map pos) (number_read printed 32767 n most (omega arith))
priority_read printed (negsuc n) is =
    let least : n ≤ 32767 = leb→le n 32767 is.0.le in
    rw (number_read printed 32768 (suc n) (omega (arith, least)) (omega arith), ne_eqb (suc n) 0 (λ none. absurd (omega (arith, none)))) refl

-- a byte that doesn't occur cuts nothing
whole_by : (byte : ℕ) (text : List ℕ) → list_all (λ other. not (other == byte)) text ≡ true → position_or_len (λ other. other == byte) text ≡ length text
whole_by byte [] clear = refl
whole_by byte (first ∷ text) clear =
    let parts = and_parts (not (first == byte)) (list_all (λ other. not (other == byte)) text) clear in
    rw (parts.0, whole_by byte text parts.1) (omega arith)

front_by : (byte : ℕ) (front text : List ℕ) → list_all (λ other. not (other == byte)) front ≡ true → position_or_len (λ other. other == byte) (front ++ byte ∷ text) ≡ length front
front_by byte [] text clear = rw (eq-eqb byte byte refl) refl
front_by byte (first ∷ front) text clear =
    let parts = and_parts (not (first == byte)) (list_all (λ other. not (other == byte)) front) clear in
    rw (parts.0, front_by byte front text parts.1) (omega arith)

no_cut : (byte : ℕ) (text : List ℕ) → list_all (λ other. not (other == byte)) text ≡ true → cut_at byte text ≡ None
no_cut byte text clear =
    ap (λ n. if nat_lt n (length text) then Some (take n text, drop (n + 1) text) else None) (whole_by byte text clear) ∙ rw (le-ltb (length text) (length text) (omega arith)) refl

one_cut : (byte : ℕ) (front text : List ℕ) → list_all (λ other. not (other == byte)) front ≡ true → cut_at byte (front ++ byte ∷ text) ≡ Some (front, text)
one_cut byte front text clear =
    let long : length (front ++ byte ∷ text) ≡ length front + length (byte ∷ text) = length-append front (byte ∷ text) in
    ap (λ n. if nat_lt n (length (front ++ byte ∷ text)) then Some (take n (front ++ byte ∷ text), drop (n + 1) (front ++ byte ∷ text)) else None) (front_by byte front text clear)
    ∙ rw (lt-ltb (length front) (length (front ++ byte ∷ text)) (omega (arith, long)), take-append_seam front (byte ∷ text), drop-append-add front (byte ∷ text) 1) refl

-- no digit is a `/`
digits_clear : (radix : ℕ) (text : List ℕ) → radix ≤ 36 → AllDigits radix text → list_all (λ other. not (other == 47)) text ≡ true
digits_clear radix [] low all = refl
digits_clear radix (byte ∷ text) low all =
    rw (ne_eqb byte 47 (λ is. let big : digit_value byte ≡ 36 = ap digit_value is in absurd (omega (arith, big, low, all.0))), digits_clear radix text low all.1) refl

unit_read : (unit : TimeUnit) → named unit_names (unit_letter unit) ≡ Some unit
unit_read units.Second = refl
unit_read units.Minute = refl
unit_read units.Hour = refl
unit_read units.Day = refl

pub limit_read : Printed → (rate : Limit) → IsLimit rate → limit (rate_text rate) ≡ Some rate
limit_read printed rate is =
    let small : rate.count < 2 ^ 64 = omega (arith, is.1) in
    let clear = digits_clear 10 (decimal rate.count) (omega arith) (decimal_is_IsNumeral rate.count small).0.1 in
    let cut : position_or_len is_slash (rate_text rate) ≡ length (decimal rate.count) = front_by 47 (decimal rate.count) (unit_letter rate.unit) clear in
    let times : before_first is_slash (rate_text rate) ≡ decimal rate.count = ap (λ n. take n (rate_text rate)) cut ∙ take-append_seam (decimal rate.count) (47 ∷ unit_letter rate.unit) in
    let behind : after_first is_slash (rate_text rate) ≡ unit_letter rate.unit = ap (λ n. drop (n + 1) (rate_text rate)) cut ∙ drop-append-add (decimal rate.count) (47 ∷ unit_letter rate.unit) 1 in
    rw (times, behind, number_read printed 10000 rate.count is.1 (omega arith), ne_eqb rate.count 0 (λ none. absurd (omega (arith, none, is.0))), unit_read rate.unit) refl

-- hexadecimal digits
abbrev Few : ℕ → Type 0
Few steps = (most n : ℕ) (behind : List ℕ) → n < 16 ^ suc most → length (digits_onto steps 16 false n behind) ≤ length behind + suc most

few_digits : (steps : ℕ) → Few steps
few_digits zero most n behind small = omega arith
few_digits (suc steps) most n behind small = by (n / 16 == 0) refl (few_digits steps)
  where
    more : (most : ℕ) → n < 16 ^ suc most → (n / 16 ≡ 0 → ⊥) → Few steps → length (digits_onto steps 16 false (n / 16) (digit_glyph false (n % 16) ∷ behind)) ≤ length behind + suc most
    more zero small above few = absurd (above (omega (arith, small)))
    more (suc most) small above few =
        let power : 16 ^ suc (suc most) ≡ 16 ^ suc most * 16 = pow-suc 16 (suc most) in
        let rest = few most (n / 16) (digit_glyph false (n % 16) ∷ behind) (omega (arith, small, power)) in
        omega (arith, rest)

    by : (last : Bool) → (n / 16 == 0) ≡ last → Few steps
        → length (if last then digit_glyph false (n % 16) ∷ behind else digits_onto steps 16 false (n / 16) (digit_glyph false (n % 16) ∷ behind)) ≤ length behind + suc most
    by true is few = omega arith
    by false is few = more most small (eqb-false (n / 16) 0 is) few

hex_length : (n : ℕ) → n < 2 ^ 32 → length (digits 16 false n) ≤ 8
unfolding digits
hex_length n small = few_digits 64 7 n [] small

are_digits : (text : List ℕ) → AllDigits 16 text → list_all (λ byte. is_digit byte 16) text ≡ true
are_digits [] all = refl
are_digits (byte ∷ text) all = rw (lt-ltb (digit_value byte) 16 all.0, are_digits text all.1) refl

bits_read : (n : ℕ) → n < 2 ^ 32 → bits (hex_text n) ≡ Some n
unfolding bits
bits_read n small =
    let numeral = digits_is_IsNumeral 16 false (omega arith) (omega arith) n (omega (arith, small)) in
    rw (ne_eqb (length (digits 16 false n)) 0 (λ none. absurd (omega (arith, none, numeral.0.0))), le-leb (length (digits 16 false n)) 8 (hex_length n small), are_digits (digits 16 false n) numeral.0.1)
    (ap Some numeral.1)

hex_clear : (n : ℕ) → n < 2 ^ 32 → list_all (λ other. not (other == 47)) (hex_text n) ≡ true
hex_clear n small =
    rw (digits_clear 16 (digits 16 false n) (omega arith) (digits_is_IsNumeral 16 false (omega arith) (omega arith) n (omega (arith, small))).0.1) refl

pub mark_read : (value mask : ℕ) → value < 2 ^ 32 → mask < 2 ^ 32 → mark (hex_text value ++ mask_text mask) ≡ Some (value, mask)
unfolding mark
mark_read value mask small smaller = by (mask == all_ones) refl
  where
    by : (ones : Bool) → (mask == all_ones) ≡ ones → mark_of (hex_text value ++ (if ones then [] else 47 ∷ hex_text mask)) (cut_at 47 (hex_text value ++ (if ones then [] else 47 ∷ hex_text mask))) ≡ Some (value, mask)
    by true is =
        let same : hex_text value ++ [] ≡ hex_text value = append-nil (hex_text value) in
        ap (λ text. mark_of text (cut_at 47 text)) same
        ∙ ap (mark_of (hex_text value)) (no_cut 47 (hex_text value) (hex_clear value small))
        ∙ rw (bits_read value small) (ap (λ n. Some (value, n)) (sym (eqb-true mask all_ones is)))
    by false is =
        ap (mark_of (hex_text value ++ 47 ∷ hex_text mask)) (one_cut 47 (hex_text value) (hex_text mask) (hex_clear value small))
        ∙ rw (bits_read value small, bits_read mask smaller) refl
