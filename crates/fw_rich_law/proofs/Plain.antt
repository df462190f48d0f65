-- No printed value has a control byte or a quote.
use Rattle.std.proofs.Common.{◌≡◌, ◌∙◌, ℕ, zero, suc, ◌/◌, ◌%◌, ◌^◌, ◌<◌, ◌≤◌, ◌==◌, nat_le, Bool, true, false, if◌then◌else◌, inl, inr, not, ◌&&◌, List, [], ◌∷◌, ◌++◌, length, get_or, Some, ℤ, pos, negsuc, decimal, bytes_eq, unwrap_or, refl, ap, arith, leb→le, lit<, lit≤}
use Rattle.std.specs.Char.{digit_value}
use Rattle.std.specs.Fmt.{digit_glyph, digits, signed_decimal}
use Rattle.std.specs.List.{list_all, join_with_byte}
use Rattle.std.specs.Str.Parse.{AllDigits}
use Rattle.std.proofs.NetLemmas.Alphabet.{All-hex_groups_text, IsHexOrColon}
use Rattle.std.proofs.NetLemmas.Texts.{AllSegments}
use Rattle.std.proofs.lemmas.Bool.{agree_below_at, and_parts, cases_lt, false≢true, le-leb, leb-true, lt-ltb, ne_eqb}
use Rattle.std.proofs.lemmas.Bool.Decides.{nat_tests}
use Rattle.std.proofs.lemmas.Fmt.{decimal_is_IsNumeral, digits_is_IsNumeral}
use Rattle.std.proofs.lemmas.Grind.{common_steps}
use Rattle.std.proofs.lemmas.Nat.{mod_below}
use Rattle.std.proofs.lemmas.Slice.Eq.{bytes_eq-Decides}
use Rattle.fw_addr.specs.Canonical.{address_text, groups_of, ipv4_text, ipv6_text}
use Rattle.fw_addr.specs.Hardware.{mac_text}
use Rattle.fw_addr.specs.Hexadecimal.{hex_byte}
use Rattle.fw_addr.specs.Names.{family_text, level_text, reject_text, unit_letter}
use Rattle.fw_addr.specs.Nets.{net_text}
use Rattle.fw_addr.specs.Ports.{Range, ports_text}
use Rattle.fw_addr.specs.Protocols.{port_proto_text, proto_names, proto_text}
use Rattle.fw_addr.specs.Subnets.{Subnet, bits, is_subnet, width}
use Rattle.fw_addr.specs.WellFormed.{is_name, is_name_byte}
use Rattle.fw_addr.specs.declared.addr.Addr.{Addr}
use Rattle.fw_addr.specs.declared.addr.Addr.TheVariants as addrs
use Rattle.fw_addr.specs.declared.limit.Limit.{Limit}
use Rattle.fw_addr.specs.declared.limit.Unit.{Unit as TimeUnit}
use Rattle.fw_addr.specs.declared.limit.Unit.TheVariants as units
use Rattle.fw_addr.specs.declared.log.Level.{Level}
use Rattle.fw_addr.specs.declared.log.Level.TheVariants as level
use Rattle.fw_addr.specs.declared.packet.Family.{Family}
use Rattle.fw_addr.specs.declared.packet.Family.TheVariants as family
use Rattle.fw_addr.specs.declared.proto.PortProto.{PortProto}
use Rattle.fw_addr.specs.declared.proto.PortProto.TheVariants as protos
use Rattle.fw_addr.specs.declared.reject.RejectType.{RejectType}
use Rattle.fw_addr.specs.declared.reject.RejectType.TheVariants as reject
use Rattle.fw_rich.specs.Canonical.{hex_text, mask_text, rate_text}
use Rattle.fw_rich.specs.Numbers.{all_ones}
use Rattle.fw_rich.specs.Tokens.{is_plain}
use Rattle.fw_text.specs.Names.{name_of, named}
use Rattle.fw_valid.specs.Riches.{IsPriority, is_prefix}

-- digits of a number, in any case
digit_plain : (byte : ℕ) → digit_value byte < 16 → is_plain byte ≡ true
digit_plain byte small = elim (cases_lt byte 48) [
  | inl below ↦ absurd (no_digit below)
  | inr above ↦ plain above
]
  where
    no_digit : byte < 48 → ⊥
    no_digit below = let big : digit_value byte ≡ 36 = rw (lt-ltb byte 48 below) refl in omega (arith, big, small)

    differs : byte ≡ 127 → ⊥
    differs is = let big : digit_value byte ≡ 36 = ap digit_value is in omega (arith, big, small)

    plain : 48 ≤ byte → is_plain byte ≡ true
    plain above = rw (le-leb 32 byte (omega (arith, above)), ne_eqb byte 127 differs, ne_eqb byte 34 (λ is. absurd (omega (arith, above, is)))) refl

digits_plain : (text : List ℕ) → AllDigits 16 text → list_all is_plain text ≡ true
digits_plain [] all = refl
digits_plain (byte ∷ text) all = rw (digit_plain byte all.0, digits_plain text all.1) refl

fewer_digits : (text : List ℕ) → AllDigits 10 text → AllDigits 16 text
fewer_digits [] all = tt
fewer_digits (byte ∷ text) all = (omega (arith, all.0), fewer_digits text all.1)

pub decimal_plain : (n : ℕ) → n < 2 ^ 64 → list_all is_plain (decimal n) ≡ true
decimal_plain n small = digits_plain (decimal n) (fewer_digits (decimal n) (decimal_is_IsNumeral n small).0.1)

pub hex_plain : (n : ℕ) → n < 2 ^ 32 → list_all is_plain (digits 16 false n) ≡ true
hex_plain n small = digits_plain (digits 16 false n) (digits_is_IsNumeral 16 false (omega arith) (omega arith) n (omega (arith, small))).0.1

pub plain_join : (front back : List ℕ) → list_all is_plain front ≡ true → list_all is_plain back ≡ true → list_all is_plain (front ++ back) ≡ true
plain_join [] back all others = others
plain_join (byte ∷ front) back all others =
    let parts = and_parts (is_plain byte) (list_all is_plain front) all in
    rw (parts.0, plain_join front back parts.1 others) refl

-- names
name_byte_plain : (byte : ℕ) → is_name_byte byte ≡ true → is_plain byte ≡ true
name_byte_plain byte is = grind (arith, common_steps, nat_tests)

name_bytes_plain : (text : List ℕ) → list_all is_name_byte text ≡ true → list_all is_plain text ≡ true
name_bytes_plain [] all = refl
name_bytes_plain (byte ∷ text) all =
    let parts = and_parts (is_name_byte byte) (list_all is_name_byte text) all in
    rw (name_byte_plain byte parts.0, name_bytes_plain text parts.1) refl

pub name_plain : (name : List ℕ) → is_name name ≡ true → list_all is_plain name ≡ true
name_plain name is = name_bytes_plain name (and_parts _ (list_all is_name_byte name) is).1

-- the names of a table
pub named_plain : {X : Type 0} (rows : List (List ℕ × X)) → list_all (λ row. list_all is_plain row.0) rows ≡ true → (name : List ℕ) (x : X) → named rows name ≡ Some x → list_all is_plain name ≡ true
named_plain [] all name x found = absurd (cc)
named_plain (row ∷ rows) all name x found =
    let parts = and_parts (list_all is_plain row.0) (list_all (λ row. list_all is_plain row.0) rows) all in
    by (bytes_eq name row.0) refl parts.0 found (named_plain rows parts.1 name x)
  where
    by : (t : Bool) → bytes_eq name row.0 ≡ t → list_all is_plain row.0 ≡ true → (if t then Some row.1 else named rows name) ≡ Some x
        → (named rows name ≡ Some x → list_all is_plain name ≡ true) → list_all is_plain name ≡ true
    by true same plain found later = ap (list_all is_plain) ((bytes_eq-Decides name row.0).0 same) ∙ plain
    by false differ plain found later = later found

name_of_plain : (rows : List (List ℕ × ℕ)) → list_all (λ row. list_all is_plain row.0) rows ≡ true → (n : ℕ) (other : List ℕ) → list_all is_plain other ≡ true → list_all is_plain (unwrap_or (name_of rows n) other) ≡ true
name_of_plain [] all n other plain = plain
name_of_plain (row ∷ rows) all n other plain =
    let parts = and_parts (list_all is_plain row.0) (list_all (λ row. list_all is_plain row.0) rows) all in
    by (row.1 == n) parts.0 (name_of_plain rows parts.1 n other plain)
  where
    by : (t : Bool) → list_all is_plain row.0 ≡ true → list_all is_plain (unwrap_or (name_of rows n) other) ≡ true → list_all is_plain (unwrap_or (if t then Some row.0 else name_of rows n) other) ≡ true
    by true here later = here
    by false here later = later

pub proto_plain : (n : ℕ) → n < 2 ^ 8 → list_all is_plain (proto_text n) ≡ true
proto_plain n small = name_of_plain proto_names refl n (decimal n) (decimal_plain n (omega (arith, small)))

pub port_proto_plain : (protocol : PortProto) → list_all is_plain (port_proto_text protocol) ≡ true
port_proto_plain protos.Tcp = refl
port_proto_plain protos.Udp = refl
port_proto_plain protos.Sctp = refl
port_proto_plain protos.Dccp = refl

pub ports_plain : (range : Range) → range.first ≤ range.last → range.last < 2 ^ 16 → list_all is_plain (ports_text range) ≡ true
ports_plain range ordered small = by (range.first == range.last)
  where
    first : list_all is_plain (decimal range.first) ≡ true
    first = decimal_plain range.first (omega (arith, ordered, small))

    last : list_all is_plain (decimal range.last) ≡ true
    last = decimal_plain range.last (omega (arith, small))

    behind : list_all is_plain (45 ∷ decimal range.last) ≡ true
    behind = rw last refl

    by : (one : Bool) → list_all is_plain (if one then decimal range.first else decimal range.first ++ 45 ∷ decimal range.last) ≡ true
    by true = first
    by false = plain_join (decimal range.first) (45 ∷ decimal range.last) first behind

-- texts joined by a plain byte
abbrev AllPlain : List (List ℕ) → Type 0
AllPlain [] = Unit {0}
AllPlain (text ∷ texts) = (list_all is_plain text ≡ true) × AllPlain texts

join_plain : (separator : ℕ) (first : List ℕ) (others : List (List ℕ)) → is_plain separator ≡ true → list_all is_plain first ≡ true → AllPlain others → list_all is_plain (join_with_byte separator (first ∷ others)) ≡ true
join_plain separator first [] is plain all = plain
join_plain separator first (next ∷ others) is plain all =
    plain_join first (separator ∷ join_with_byte separator (next ∷ others)) plain (rw (is, join_plain separator next others is all.0 all.1) refl)

ipv4_plain : (n : ℕ) → n < 2 ^ 32 → list_all is_plain (ipv4_text n) ≡ true
ipv4_plain n small =
    let octet = λ (m : ℕ) (fits : m < 256). decimal_plain m (omega (arith, fits)) in
    let low = λ (k : ℕ). mod_below (n / 2 ^ k) 256 (lit< tt) in
    join_plain 46 (decimal (n / 2 ^ 24)) (decimal (n / 2 ^ 16 % 256) ∷ decimal (n / 2 ^ 8 % 256) ∷ decimal (n % 256) ∷ []) refl
    (octet _ (omega arith)) (octet _ (low 16), (octet _ (low 8), (octet _ (mod_below n 256 (lit< tt)), tt)))

hex_byte_plain : (byte : ℕ) → IsHexOrColon byte → is_plain byte ≡ true
hex_byte_plain byte is = grind (arith, common_steps, nat_tests)

all_plain : (text : List ℕ) → ((k : ℕ) → k < length text → IsHexOrColon (get_or text k 0)) → list_all is_plain text ≡ true
all_plain [] all = refl
all_plain (byte ∷ text) all =
    rw (hex_byte_plain byte (all 0 (omega arith)), all_plain text (λ k below. all (suc k) (omega arith))) refl

abbrev AllSmall : List ℕ → Type 0
AllSmall [] = Unit {0}
AllSmall (value ∷ values) = (value < 2 ^ 16) × AllSmall values

small_at : (values : List ℕ) → AllSmall values → AllSegments values
small_at [] small k = omega arith
small_at (value ∷ values) small k =
    let later = small_at values small.1 in
    elim k as (λ j. get_or (value ∷ values) j 0 < 2 ^ 16) [ zero ↦ small.0 | suc j ↦ later j ]

small_groups : (n : ℕ) → n < 2 ^ 128 → AllSegments (groups_of n)
small_groups n small =
    let low = λ (k : ℕ). mod_below (n / 2 ^ k) 65536 (lit< tt) in
    small_at (groups_of n) (omega arith, (low 96, (low 80, (low 64, (low 48, (low 32, (low 16, (mod_below n 65536 (lit< tt), tt))))))))

ipv6_plain : (n : ℕ) → n < 2 ^ 128 → list_all is_plain (ipv6_text n) ≡ true
ipv6_plain n small =
    let all = All-hex_groups_text (groups_of n) (small_groups n small) in
    all_plain (ipv6_text n) (λ k below. all k 0 below)

pub address_plain : (address : Addr) → bits address < 2 ^ width address → list_all is_plain (address_text address) ≡ true
address_plain (addrs.V4 n) small = ipv4_plain n small
address_plain (addrs.V6 n) small = ipv6_plain n small

width_small : (address : Addr) → width address ≤ 128
width_small (addrs.V4 n) = lit≤ tt
width_small (addrs.V6 n) = lit≤ tt

pub net_plain : (net : Subnet) → is_subnet net ≡ true → bits net.address < 2 ^ width net.address → list_all is_plain (net_text net) ≡ true
net_plain net is small = by (net.prefix == width net.address)
  where
    address : list_all is_plain (address_text net.address) ≡ true
    address = address_plain net.address small

    fits : net.prefix ≤ width net.address
    fits = leb-true _ _ (and_parts _ _ is).0

    prefix : list_all is_plain (47 ∷ decimal net.prefix) ≡ true
    prefix = rw (decimal_plain net.prefix (omega (arith, fits, width_small net.address))) refl

    by : (whole : Bool) → list_all is_plain (if whole then address_text net.address else address_text net.address ++ 47 ∷ decimal net.prefix) ≡ true
    by true = address
    by false = plain_join (address_text net.address) (47 ∷ decimal net.prefix) address prefix

is_plain_glyph : ℕ → Bool
is_plain_glyph d = is_plain (digit_glyph false d)

glyph_plain : (d : ℕ) → d < 16 → is_plain (digit_glyph false d) ≡ true
unfolding is_plain_glyph
glyph_plain d small = agree_below_at is_plain_glyph (λ _. true) 16 d refl small

octet_plain : (n : ℕ) → n < 256 → list_all is_plain (hex_byte n) ≡ true
octet_plain n small = rw (glyph_plain (n / 16) (omega arith), glyph_plain (n % 16) (omega arith)) refl

pub mac_plain : (n : ℕ) → n < 2 ^ 48 → list_all is_plain (mac_text n) ≡ true
mac_plain n small =
    let high : n / 2 ^ 40 < 256 = omega arith in
    let low = λ (k : ℕ). mod_below (n / 2 ^ k) 256 (lit< tt) in
    join_plain 58 (hex_byte (n / 2 ^ 40)) (hex_byte (n / 2 ^ 32 % 256) ∷ hex_byte (n / 2 ^ 24 % 256) ∷ hex_byte (n / 2 ^ 16 % 256) ∷ hex_byte (n / 2 ^ 8 % 256) ∷ hex_byte (n % 256) ∷ []) refl
    (octet_plain (n / 2 ^ 40) high) (octet_plain _ (low 32), (octet_plain _ (low 24), (octet_plain _ (low 16), (octet_plain _ (low 8), (octet_plain _ (mod_below n 256 (lit< tt)), tt)))))

letter_plain : (unit : TimeUnit) → list_all is_plain (47 ∷ unit_letter unit) ≡ true
letter_plain units.Second = refl
letter_plain units.Minute = refl
letter_plain units.Hour = refl
letter_plain units.Day = refl

pub rate_plain : (limit : Limit) → limit.count ≤ 10000 → list_all is_plain (rate_text limit) ≡ true
rate_plain limit small = plain_join (decimal limit.count) (47 ∷ unit_letter limit.unit) (decimal_plain limit.count (omega (arith, small))) (letter_plain limit.unit)

pub mark_plain : (value mask : ℕ) → value < 2 ^ 32 → mask < 2 ^ 32 → list_all is_plain (hex_text value ++ mask_text mask) ≡ true
mark_plain value mask small smaller =
    plain_join (hex_text value) (mask_text mask) (hex_text_plain value small) (by (mask == all_ones))
  where
    hex_text_plain : (n : ℕ) → n < 2 ^ 32 → list_all is_plain (hex_text n) ≡ true
    hex_text_plain n fits = rw (hex_plain n fits) refl

    by : (ones : Bool) → list_all is_plain (if ones then [] else 47 ∷ hex_text mask) ≡ true
    by true = refl
    by false = rw (hex_plain mask smaller) refl

pub reject_plain : (kind : RejectType) → list_all is_plain (reject_text kind) ≡ true
reject_plain reject.IcmpNetUnreachable = refl
reject_plain reject.IcmpHostUnreachable = refl
reject_plain reject.IcmpPortUnreachable = refl
reject_plain reject.IcmpProtoUnreachable = refl
reject_plain reject.IcmpNetProhibited = refl
reject_plain reject.IcmpHostProhibited = refl
reject_plain reject.IcmpAdminProhibited = refl
reject_plain reject.Icmp6NoRoute = refl
reject_plain reject.Icmp6AddrUnreachable = refl
reject_plain reject.Icmp6PortUnreachable = refl
reject_plain reject.Icmp6AdmProhibited = refl
reject_plain reject.IcmpxAdminProhibited = refl
reject_plain reject.IcmpxPortUnreachable = refl
reject_plain reject.TcpReset = refl

pub level_plain : (level : Level) → list_all is_plain (level_text level) ≡ true
level_plain level.Emerg = refl
level_plain level.Alert = refl
level_plain level.Crit = refl
level_plain level.Error = refl
level_plain level.Warning = refl
level_plain level.Notice = refl
level_plain level.Info = refl
level_plain level.Debug = refl

pub family_plain : (family : Family) → list_all is_plain (family_text family) ≡ true
family_plain family.V4 = refl
family_plain family.V6 = refl

pub priority_plain : (priority : ℤ) → IsPriority priority → list_all is_plain (signed_decimal priority) ≡ true
priority_plain (pos n) is = let most : n ≤ 32767 = leb→le n 32767 is.1.le in decimal_plain n (omega (arith, most))
priority_plain (negsuc n) is = let least : n ≤ 32767 = leb→le n 32767 is.0.le in rw (decimal_plain (suc n) (omega (arith, least))) refl

prefix_bytes : (text : List ℕ) → list_all (λ byte. nat_le 32 byte && not (byte == 34) && not (byte == 127)) text ≡ true → list_all is_plain text ≡ true
prefix_bytes [] all = refl
prefix_bytes (byte ∷ text) all =
    let parts = and_parts (nat_le 32 byte && not (byte == 34) && not (byte == 127)) (list_all (λ byte. nat_le 32 byte && not (byte == 34) && not (byte == 127)) text) all in
    rw (swapped (nat_le 32 byte) (not (byte == 34)) (not (byte == 127)) parts.0, prefix_bytes text parts.1) refl
  where
    swapped : (low quote delete : Bool) → (low && quote && delete) ≡ true → (low && delete && quote) ≡ true
    swapped true true true is = refl
    swapped true true false is = is
    swapped true false delete is = absurd (false≢true is)
    swapped false quote delete is = is

pub prefix_plain : (text : List ℕ) → is_prefix text ≡ true → list_all is_plain text ≡ true
prefix_plain text is = prefix_bytes text (and_parts (nat_le (length text) 127) _ is).1
