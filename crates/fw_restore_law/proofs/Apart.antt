-- The text of a hardware address is that of no net, and the text of neither begins with `ipset:`.
use Rattle.std.proofs.Common.{◌≡◌, ◌∙◌, ℕ, zero, suc, ◌/◌, ◌%◌, ◌^◌, ◌<◌, ◌==◌, Bool, true, false, if◌then◌else◌, cond, ◌&&◌, List, [], ◌∷◌, ◌++◌, length, get_or, Option, None, Some, codes, decimal, refl, ap, arith, lit<}
use Rattle.std.specs.Char.{digit_value}
use Rattle.std.specs.Fmt.{digit_glyph}
use Rattle.std.specs.Int.Digits.{number_from_digits}
use Rattle.std.specs.List.{join_with_byte, onto_first}
use Rattle.std.specs.Option.{option_map, option_or}
use Rattle.std.proofs.lemmas.Bool.Decides.{nat_tests}
use Rattle.std.proofs.lemmas.Grind.{common_steps}
use Rattle.std.specs.Str.Parse.{AllDigits, digits_value}
use Rattle.std.proofs.NetLemmas.Alphabet.{All-hex_groups_text, IsHexOrColon}
use Rattle.std.proofs.NetLemmas.Texts.{AllSegments}
use Rattle.std.proofs.lemmas.Bool.{agree_below_at, ne_eqb}
use Rattle.std.proofs.lemmas.Fmt.{decimal_is_IsNumeral}
use Rattle.std.proofs.lemmas.Nat.{mod_below}
use Rattle.fw_addr.specs.Addresses.{address, around_gap, eight, group, groups, groups_around, ipv6, last_groups, octets}
use Rattle.fw_addr.specs.Canonical.{address_text, groups_of, ipv6_text}
use Rattle.fw_addr.specs.Hardware.{mac_text}
use Rattle.fw_addr.specs.Hexadecimal.{is_hex}
use Rattle.fw_addr.specs.Nets.{net, net_of, net_text}
use Rattle.fw_addr.specs.Subnets.{Subnet, subnet, width}
use Rattle.fw_addr.specs.declared.addr.Addr.{Addr}
use Rattle.fw_addr.specs.declared.addr.Addr.TheVariants as addrs
use Rattle.fw_rich_law.specs.Values.{IsAddress, IsNet}
use Rattle.fw_text.specs.Pieces.{pieces}
use Rattle.fw_text.specs.Steps.{◌>>=◌}
use Rattle.fw_words.specs.Keys.{after_key}

-- ---- hexadecimal digits

record Digit (byte : ℕ) : Type 0 where
  hex : is_hex byte ≡ true
  colon : (byte == 58) ≡ false
  slash : (byte == 47) ≡ false
  dot : (byte == 46) ≡ false
  letter : (byte == 105) ≡ false

glyph : (d : ℕ) → d < 16 → Digit (digit_glyph false d)
glyph d small = record {
  hex = agree_below_at (λ n. is_hex (digit_glyph false n)) (λ _. true) 16 d refl small;
  colon = agree_below_at (λ n. digit_glyph false n == 58) (λ _. false) 16 d refl small;
  slash = agree_below_at (λ n. digit_glyph false n == 47) (λ _. false) 16 d refl small;
  dot = agree_below_at (λ n. digit_glyph false n == 46) (λ _. false) 16 d refl small;
  letter = agree_below_at (λ n. digit_glyph false n == 105) (λ _. false) 16 d refl small;
}

-- ---- pieces

abbrev Free : ℕ → List ℕ → Type 0
Free separator [] = Unit {0}
Free separator (byte ∷ text) = ((byte == separator) ≡ false) × Free separator text

whole : (separator : ℕ) (text : List ℕ) → Free separator text → pieces separator text ≡ text ∷ []
whole separator [] free = refl
whole separator (byte ∷ text) free =
    ap (λ cut. cond cut ([] ∷ pieces separator text) (onto_first byte (pieces separator text))) free.0 ∙ ap (onto_first byte) (whole separator text free.1)

cut : (front text : List ℕ) → Free 58 front → pieces 58 (front ++ 58 ∷ text) ≡ front ∷ pieces 58 text
cut [] text free = refl
cut (byte ∷ front) text free =
    ap (λ cut. cond cut ([] ∷ pieces 58 (front ++ 58 ∷ text)) (onto_first byte (pieces 58 (front ++ 58 ∷ text)))) free.0 ∙ ap (onto_first byte) (cut front text free.1)

abbrev Lone : List ℕ → Type 0
Lone [] = Unit {0}
Lone (byte ∷ []) = Unit {0}
Lone (byte ∷ next ∷ text) = ((byte == 58 && next == 58) ≡ false) × Lone (next ∷ text)

no_gap : (text : List ℕ) → Lone text → around_gap text ≡ None
no_gap [] lone = refl
no_gap (byte ∷ []) lone = refl
no_gap (byte ∷ next ∷ text) lone =
    ap (λ gap. if gap then Some ([], text) else option_map (λ sides. (byte ∷ sides.0, sides.1)) (around_gap (next ∷ text))) lone.0
    ∙ ap (option_map (λ sides. (byte ∷ sides.0, sides.1))) (no_gap (next ∷ text) lone.1)

before : (byte next : ℕ) → (byte == 58) ≡ false → (byte == 58 && next == 58) ≡ false
before byte next is = ap (λ colon. colon && next == 58) is

no_slash : (a b c d e f g h i j k l : ℕ) → Digit a → Digit b → Digit c → Digit d → Digit e → Digit f → Digit g → Digit h → Digit i → Digit j → Digit k → Digit l → pieces 47 (a ∷ b ∷ 58 ∷ c ∷ d ∷ 58 ∷ e ∷ f ∷ 58 ∷ g ∷ h ∷ 58 ∷ i ∷ j ∷ 58 ∷ k ∷ l ∷ []) ≡ (a ∷ b ∷ 58 ∷ c ∷ d ∷ 58 ∷ e ∷ f ∷ 58 ∷ g ∷ h ∷ 58 ∷ i ∷ j ∷ 58 ∷ k ∷ l ∷ []) ∷ []
no_slash a b c d e f g h i j k l A0 B0 C0 D0 E0 F0 G0 H0 I0 J0 K0 L0 =
    whole 47 (a ∷ b ∷ 58 ∷ c ∷ d ∷ 58 ∷ e ∷ f ∷ 58 ∷ g ∷ h ∷ 58 ∷ i ∷ j ∷ 58 ∷ k ∷ l ∷ []) (A0.slash, (B0.slash, (refl, (C0.slash, (D0.slash, (refl, (E0.slash, (F0.slash, (refl, (G0.slash, (H0.slash, (refl, (I0.slash, (J0.slash, (refl, (K0.slash, (L0.slash, tt)))))))))))))))))

no_dot : (a b c d e f g h i j k l : ℕ) → Digit a → Digit b → Digit c → Digit d → Digit e → Digit f → Digit g → Digit h → Digit i → Digit j → Digit k → Digit l → pieces 46 (a ∷ b ∷ 58 ∷ c ∷ d ∷ 58 ∷ e ∷ f ∷ 58 ∷ g ∷ h ∷ 58 ∷ i ∷ j ∷ 58 ∷ k ∷ l ∷ []) ≡ (a ∷ b ∷ 58 ∷ c ∷ d ∷ 58 ∷ e ∷ f ∷ 58 ∷ g ∷ h ∷ 58 ∷ i ∷ j ∷ 58 ∷ k ∷ l ∷ []) ∷ []
no_dot a b c d e f g h i j k l A0 B0 C0 D0 E0 F0 G0 H0 I0 J0 K0 L0 =
    whole 46 (a ∷ b ∷ 58 ∷ c ∷ d ∷ 58 ∷ e ∷ f ∷ 58 ∷ g ∷ h ∷ 58 ∷ i ∷ j ∷ 58 ∷ k ∷ l ∷ []) (A0.dot, (B0.dot, (refl, (C0.dot, (D0.dot, (refl, (E0.dot, (F0.dot, (refl, (G0.dot, (H0.dot, (refl, (I0.dot, (J0.dot, (refl, (K0.dot, (L0.dot, tt)))))))))))))))))

lone : (a b c d e f g h i j k l : ℕ) → Digit a → Digit b → Digit c → Digit d → Digit e → Digit f → Digit g → Digit h → Digit i → Digit j → Digit k → Digit l → around_gap (a ∷ b ∷ 58 ∷ c ∷ d ∷ 58 ∷ e ∷ f ∷ 58 ∷ g ∷ h ∷ 58 ∷ i ∷ j ∷ 58 ∷ k ∷ l ∷ []) ≡ None
lone a b c d e f g h i j k l A0 B0 C0 D0 E0 F0 G0 H0 I0 J0 K0 L0 =
    no_gap (a ∷ b ∷ 58 ∷ c ∷ d ∷ 58 ∷ e ∷ f ∷ 58 ∷ g ∷ h ∷ 58 ∷ i ∷ j ∷ 58 ∷ k ∷ l ∷ []) (before a b A0.colon, (before b 58 B0.colon, (C0.colon, (before c d C0.colon, (before d 58 D0.colon, (E0.colon, (before e f E0.colon, (before f 58 F0.colon, (G0.colon, (before g h G0.colon, (before h 58 H0.colon, (I0.colon, (before i j I0.colon, (before j 58 J0.colon, (K0.colon, (before k l K0.colon, tt))))))))))))))))

six : (a b c d e f g h i j k l : ℕ) → Digit a → Digit b → Digit c → Digit d → Digit e → Digit f → Digit g → Digit h → Digit i → Digit j → Digit k → Digit l → pieces 58 (a ∷ b ∷ 58 ∷ c ∷ d ∷ 58 ∷ e ∷ f ∷ 58 ∷ g ∷ h ∷ 58 ∷ i ∷ j ∷ 58 ∷ k ∷ l ∷ []) ≡ (a ∷ b ∷ []) ∷ (c ∷ d ∷ []) ∷ (e ∷ f ∷ []) ∷ (g ∷ h ∷ []) ∷ (i ∷ j ∷ []) ∷ (k ∷ l ∷ []) ∷ []
six a b c d e f g h i j k l A0 B0 C0 D0 E0 F0 G0 H0 I0 J0 K0 L0 =
    cut (a ∷ b ∷ []) (c ∷ d ∷ 58 ∷ e ∷ f ∷ 58 ∷ g ∷ h ∷ 58 ∷ i ∷ j ∷ 58 ∷ k ∷ l ∷ []) (A0.colon, (B0.colon, tt)) ∙ ap (λ others. (a ∷ b ∷ []) ∷ others) (
    cut (c ∷ d ∷ []) (e ∷ f ∷ 58 ∷ g ∷ h ∷ 58 ∷ i ∷ j ∷ 58 ∷ k ∷ l ∷ []) (C0.colon, (D0.colon, tt)) ∙ ap (λ others. (c ∷ d ∷ []) ∷ others) (
    cut (e ∷ f ∷ []) (g ∷ h ∷ 58 ∷ i ∷ j ∷ 58 ∷ k ∷ l ∷ []) (E0.colon, (F0.colon, tt)) ∙ ap (λ others. (e ∷ f ∷ []) ∷ others) (
    cut (g ∷ h ∷ []) (i ∷ j ∷ 58 ∷ k ∷ l ∷ []) (G0.colon, (H0.colon, tt)) ∙ ap (λ others. (g ∷ h ∷ []) ∷ others) (
    cut (i ∷ j ∷ []) (k ∷ l ∷ []) (I0.colon, (J0.colon, tt)) ∙ ap (λ others. (i ∷ j ∷ []) ∷ others) (
    whole 58 (k ∷ l ∷ []) (K0.colon, (L0.colon, tt)))))))

-- ---- six groups are no address

joined : Option ℕ → Option (List ℕ) → Option (List ℕ)
joined found later = found >>= (λ first. later >>= (λ others. Some (first ∷ others)))

short : (one two three four five : Option ℕ) (last : ℕ) → (joined one (joined two (joined three (joined four (joined five (Some (last ∷ [])))))) >>= eight) ≡ None
unfolding joined
short None two three four five last = refl
short (Some a) None three four five last = refl
short (Some a) (Some b) None four five last = refl
short (Some a) (Some b) (Some c) None five last = refl
short (Some a) (Some b) (Some c) (Some d) None last = refl
short (Some a) (Some b) (Some c) (Some d) (Some e) last = refl

last_one : (k l : ℕ) → Digit k → Digit l → last_groups true (k ∷ l ∷ []) ≡ Some (digits_value 16 (k ∷ l ∷ []) ∷ [])
last_one k l K0 L0 = rw (K0.hex, L0.hex) refl

no_address : (a b c d e f g h i j k l : ℕ) → Digit a → Digit b → Digit c → Digit d → Digit e → Digit f → Digit g → Digit h → Digit i → Digit j → Digit k → Digit l → address (a ∷ b ∷ 58 ∷ c ∷ d ∷ 58 ∷ e ∷ f ∷ 58 ∷ g ∷ h ∷ 58 ∷ i ∷ j ∷ 58 ∷ k ∷ l ∷ []) ≡ None
unfolding joined
no_address a b c d e f g h i j k l A0 B0 C0 D0 E0 F0 G0 H0 I0 J0 K0 L0 =
    ap (λ found. option_or (option_map addrs.V4 (octets found)) (option_map addrs.V6 (ipv6 (a ∷ b ∷ 58 ∷ c ∷ d ∷ 58 ∷ e ∷ f ∷ 58 ∷ g ∷ h ∷ 58 ∷ i ∷ j ∷ 58 ∷ k ∷ l ∷ [])))) (no_dot a b c d e f g h i j k l A0 B0 C0 D0 E0 F0 G0 H0 I0 J0 K0 L0)
    ∙ ap (λ found. option_map addrs.V6 (option_map (number_from_digits 65536) (groups_around (a ∷ b ∷ 58 ∷ c ∷ d ∷ 58 ∷ e ∷ f ∷ 58 ∷ g ∷ h ∷ 58 ∷ i ∷ j ∷ 58 ∷ k ∷ l ∷ []) found))) (lone a b c d e f g h i j k l A0 B0 C0 D0 E0 F0 G0 H0 I0 J0 K0 L0)
    ∙ ap (λ found. option_map addrs.V6 (option_map (number_from_digits 65536) (groups (last_groups true) found >>= eight))) (six a b c d e f g h i j k l A0 B0 C0 D0 E0 F0 G0 H0 I0 J0 K0 L0)
    ∙ ap (λ last. option_map addrs.V6 (option_map (number_from_digits 65536) (joined (group (a ∷ b ∷ [])) (joined (group (c ∷ d ∷ [])) (joined (group (e ∷ f ∷ [])) (joined (group (g ∷ h ∷ [])) (joined (group (i ∷ j ∷ [])) last)))) >>= eight))) (last_one k l K0 L0)
    ∙ ap (λ found. option_map addrs.V6 (option_map (number_from_digits 65536) found)) (short (group (a ∷ b ∷ [])) (group (c ∷ d ∷ [])) (group (e ∷ f ∷ [])) (group (g ∷ h ∷ [])) (group (i ∷ j ∷ [])) (digits_value 16 (k ∷ l ∷ [])))

no_net : (a b c d e f g h i j k l : ℕ) → Digit a → Digit b → Digit c → Digit d → Digit e → Digit f → Digit g → Digit h → Digit i → Digit j → Digit k → Digit l → net (a ∷ b ∷ 58 ∷ c ∷ d ∷ 58 ∷ e ∷ f ∷ 58 ∷ g ∷ h ∷ 58 ∷ i ∷ j ∷ 58 ∷ k ∷ l ∷ []) ≡ None
no_net a b c d e f g h i j k l A0 B0 C0 D0 E0 F0 G0 H0 I0 J0 K0 L0 =
    ap net_of (no_slash a b c d e f g h i j k l A0 B0 C0 D0 E0 F0 G0 H0 I0 J0 K0 L0) ∙ ap (λ found. found >>= (λ host. Some (subnet host (width host)))) (no_address a b c d e f g h i j k l A0 B0 C0 D0 E0 F0 G0 H0 I0 J0 K0 L0)

octet : (n : ℕ) → n < 256 → Digit (digit_glyph false (n / 16)) × Digit (digit_glyph false (n % 16))
octet n small = (glyph (n / 16) (omega (arith, small)), glyph (n % 16) (mod_below n 16 (lit< tt)))

pub mac_is_no_net : (n : ℕ) → n < 2 ^ 48 → net (mac_text n) ≡ None
mac_is_no_net n small =
    let high : n / 2 ^ 40 < 256 = omega (arith, small) in
    let low = λ (k : ℕ). mod_below (n / 2 ^ k) 256 (lit< tt) in
    let first = octet (n / 2 ^ 40) high in
    let second = octet (n / 2 ^ 32 % 256) (low 32) in
    let third = octet (n / 2 ^ 24 % 256) (low 24) in
    let fourth = octet (n / 2 ^ 16 % 256) (low 16) in
    let fifth = octet (n / 2 ^ 8 % 256) (low 8) in
    let sixth = octet (n % 256) (mod_below n 256 (lit< tt)) in
    no_net _ _ _ _ _ _ _ _ _ _ _ _ first.0 first.1 second.0 second.1 third.0 third.1 fourth.0 fourth.1 fifth.0 fifth.1 sixth.0 sixth.1

-- ---- no text begins with `ipset:`

abbrev Starts : List ℕ → Type 0
Starts [] = Unit {0}
Starts (byte ∷ text) = (byte == 105) ≡ false

starts_join : (front behind : List ℕ) → Starts front → Starts behind → Starts (front ++ behind)
starts_join [] behind one other = other
starts_join (byte ∷ front) behind one other = one

no_word : (text : List ℕ) → Starts text → after_key (codes "ipset:") text ≡ None
no_word [] is = refl
no_word (byte ∷ text) is = rw is refl

pub no_word_in_mac : (n : ℕ) → n < 2 ^ 48 → after_key (codes "ipset:") (mac_text n) ≡ None
no_word_in_mac n small =
    let high : n / 2 ^ 40 < 256 = omega (arith, small) in
    no_word (mac_text n) (glyph (n / 2 ^ 40 / 16) (omega (arith, high))).letter

digits_start : (text : List ℕ) → AllDigits 10 text → Starts text
digits_start [] all = tt
digits_start (byte ∷ text) all = ne_eqb byte 105 (λ is. let big : digit_value byte ≡ 18 = ap digit_value is in absurd (omega (arith, big, all.0)))

no_letter : (byte : ℕ) → IsHexOrColon byte → (byte == 105) ≡ false
no_letter byte is = grind (arith, common_steps, nat_tests)

hex_start : (text : List ℕ) → ((k : ℕ) → k < length text → IsHexOrColon (get_or text k 0)) → Starts text
hex_start [] all = tt
hex_start (byte ∷ text) all = no_letter byte (all 0 (omega arith))

abbrev AllSmall : List ℕ → Type 0
AllSmall [] = Unit {0}
AllSmall (value ∷ values) = (value < 2 ^ 16) × AllSmall values

small_at : (values : List ℕ) → AllSmall values → AllSegments values
small_at [] small k = omega arith
small_at (value ∷ values) small k =
    let later = small_at values small.1 in
    elim k as (λ j. get_or (value ∷ values) j 0 < 2 ^ 16) [ zero ↦ small.0 | suc j ↦ later j ]

small_groups : (n : ℕ) → n < 2 ^ 128 → AllSegments (groups_of n)
small_groups n small =
    let low = λ (k : ℕ). mod_below (n / 2 ^ k) 65536 (lit< tt) in
    small_at (groups_of n) (omega arith, (low 96, (low 80, (low 64, (low 48, (low 32, (low 16, (mod_below n 65536 (lit< tt), tt))))))))

address_starts : (host : Addr) → IsAddress host → Starts (address_text host)
address_starts (addrs.V4 n) small =
    starts_join (decimal (n / 2 ^ 24)) (46 ∷ join_with_byte 46 (decimal (n / 2 ^ 16 % 256) ∷ decimal (n / 2 ^ 8 % 256) ∷ decimal (n % 256) ∷ []))
    (digits_start (decimal (n / 2 ^ 24)) (decimal_is_IsNumeral (n / 2 ^ 24) (omega (arith, small))).0.1) refl
address_starts (addrs.V6 n) small =
    let all = All-hex_groups_text (groups_of n) (small_groups n small) in
    hex_start (ipv6_text n) (λ k below. all k 0 below)

pub no_word_in_net : (net : Subnet) → IsNet net → after_key (codes "ipset:") (net_text net) ≡ None
no_word_in_net net is = no_word (net_text net) (by (net.prefix == width net.address))
  where
    host : Starts (address_text net.address)
    host = address_starts net.address is.1

    by : (whole : Bool) → Starts (if whole then address_text net.address else address_text net.address ++ 47 ∷ decimal net.prefix)
    by true = host
    by false = starts_join (address_text net.address) (47 ∷ decimal net.prefix) host refl
