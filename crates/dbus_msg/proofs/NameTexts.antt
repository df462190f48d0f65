-- Each name is a text: its bytes are ASCII, and none is NUL.
use Rattle.std.proofs.Common.{◌≡◌, ℕ, zero, suc, ◌<◌, ◌≤◌, Bool, true, false, not, eqb, List, [], ◌∷◌, ◌++◌, refl, sym, ap, subst, ◌∙◌, arith, inl, inr}
use Rattle.std.specs.Prelude.{nat_le, slice_index, ◌&&◌, ◌||◌, if◌then◌else◌}
use Rattle.std.specs.List.{join_with_byte, list_all, list_any, slice_split}
use Rattle.std.specs.Str.{IsAscii}
use Rattle.std.proofs.lemmas.Bool.{and_from, and_parts, eqb-true, false≢true, leb-true, ne_eqb, or_cases}
use Rattle.std.proofs.lemmas.List.Splits.{join_with_byte-slice_split}
use Rattle.std.proofs.lemmas.Str.{IsUtf8-from_ascii, is_utf8-from_IsUtf8}
use Rattle.dbus_wire.specs.Texts.{is_text}
use Rattle.dbus_msg.specs.declared.known.Name.{Name}
use Rattle.dbus_msg.specs.declared.known.Name.TheVariants as names
use Rattle.dbus_msg.specs.declared.names.Part.{Part}
use Rattle.dbus_msg.specs.declared.names.Part.TheVariants as parts
use Rattle.dbus_msg.specs.Known.{is_name}
use Rattle.dbus_msg.specs.Names.{are_joined, is_bus_element, is_digit, is_dot, is_element, is_letter, is_part}

abbrev In : ℕ → Type 0
In c = (0 < c) × (c < 128)

-- each byte is ASCII and no NUL
abbrev AllIn : List ℕ → Type 0
AllIn [] = Unit {0}
AllIn (c ∷ cs) = In c × AllIn cs

-- ---- bytes

between : (low high c : ℕ) → (nat_le low c && nat_le c high) ≡ true → (low ≤ c) × (c ≤ high)
between low high c is =
    let both = and_parts (nat_le low c) (nat_le c high) is in
    (leb-true low c both.0, leb-true c high both.1)

within : (low high c : ℕ) → 0 < low → high < 128 → (nat_le low c && nat_le c high) ≡ true → In c
within low high c some small is =
    let b = between low high c is in
    (omega (arith, some, b.0), omega (arith, small, b.1))

one : (n c : ℕ) → 0 < n → n < 128 → eqb c n ≡ true → In c
one n c some small is =
    let same = eqb-true c n is in
    (omega (arith, same, some), omega (arith, same, small))

letter_in : (c : ℕ) → is_letter c ≡ true → In c
letter_in c is =
    elim (or_cases ((nat_le 65 c && nat_le c 90) || (nat_le 97 c && nat_le c 122)) (eqb c 95) is) [
      | inl letter ↦
          elim (or_cases (nat_le 65 c && nat_le c 90) (nat_le 97 c && nat_le c 122) letter) [
            | inl upper ↦ within 65 90 c (omega arith) (omega arith) upper
            | inr lower ↦ within 97 122 c (omega arith) (omega arith) lower
          ]
      | inr line ↦ one 95 c (omega arith) (omega arith) line
    ]

digit_in : (c : ℕ) → is_digit c ≡ true → In c
digit_in c is = within 48 57 c (omega arith) (omega arith) is

name_byte_in : (c : ℕ) → (is_letter c || is_digit c) ≡ true → In c
name_byte_in c is =
    elim (or_cases (is_letter c) (is_digit c) is) [
      | inl letter ↦ letter_in c letter
      | inr digit ↦ digit_in c digit
    ]

bus_byte_in : (c : ℕ) → ((is_letter c || is_digit c) || eqb c 45) ≡ true → In c
bus_byte_in c is =
    elim (or_cases (is_letter c || is_digit c) (eqb c 45) is) [
      | inl plain ↦ name_byte_in c plain
      | inr hyphen ↦ one 45 c (omega arith) (omega arith) hyphen
    ]

bus_first_in : (unique : Bool) (c : ℕ) → ((is_letter c || eqb c 45) || (unique && is_digit c)) ≡ true → In c
bus_first_in unique c is =
    elim (or_cases (is_letter c || eqb c 45) (unique && is_digit c) is) [
      | inl plain ↦
          elim (or_cases (is_letter c) (eqb c 45) plain) [
            | inl letter ↦ letter_in c letter
            | inr hyphen ↦ one 45 c (omega arith) (omega arith) hyphen
          ]
      | inr digit ↦ digit_in c (and_parts unique (is_digit c) digit).1
    ]

-- ---- parts

all_in : (p : ℕ → Bool) → ((c : ℕ) → p c ≡ true → In c) → (text : List ℕ) → list_all p text ≡ true → AllIn text
all_in p each [] is = tt
all_in p each (c ∷ cs) is =
    let both = and_parts (p c) (list_all p cs) is in
    (each c both.0, all_in p each cs both.1)

element_in : (text : List ℕ) → is_element text ≡ true → AllIn text
element_in [] is = tt
element_in (c ∷ cs) is =
    let both = and_parts (is_letter c) (list_all (λ d. is_letter d || is_digit d) cs) is in
    (letter_in c both.0, all_in (λ d. is_letter d || is_digit d) name_byte_in cs both.1)

bus_element_in : (unique : Bool) (text : List ℕ) → is_bus_element unique text ≡ true → AllIn text
bus_element_in unique [] is = tt
bus_element_in unique (c ∷ cs) is =
    let both = and_parts ((is_letter c || eqb c 45) || (unique && is_digit c)) (list_all (λ d. (is_letter d || is_digit d) || eqb d 45) cs) is in
    (bus_first_in unique c both.0, all_in (λ d. (is_letter d || is_digit d) || eqb d 45) bus_byte_in cs both.1)

part_in : (part : Part) (text : List ℕ) → is_part part text ≡ true → AllIn text
part_in parts.Element text is = element_in text is
part_in (parts.Bus unique) text is = bus_element_in unique text is

-- ---- parts joined by dots

append_in : (xs ys : List ℕ) → AllIn xs → AllIn ys → AllIn (xs ++ ys)
append_in [] ys these those = those
append_in (x ∷ xs) ys these those = (these.0, append_in xs ys these.1 those)

joined_in : (part : Part) (texts : List (List ℕ)) → list_all (is_part part) texts ≡ true → AllIn (join_with_byte 46 texts)
joined_in part [] is = tt
joined_in part (x ∷ []) is = part_in part x (and_parts (is_part part x) true is).0
joined_in part (x ∷ y ∷ xs) is =
    let both = and_parts (is_part part x) (list_all (is_part part) (y ∷ xs)) is in
    append_in x (46 ∷ join_with_byte 46 (y ∷ xs)) (part_in part x both.0) ((omega arith, omega arith), joined_in part (y ∷ xs) both.1)

dotted_in : (part : Part) (text : List ℕ) → are_joined (is_part part) text ≡ true → AllIn text
dotted_in part text is =
    let both = and_parts (list_any is_dot text) (list_all (is_part part) (slice_split is_dot text)) is in
    subst AllIn (join_with_byte-slice_split 46 text) (joined_in part (slice_split is_dot text) both.1)

-- ---- names

bus_in : (b : Bool) (c : ℕ) (cs : List ℕ) → eqb c 58 ≡ b → (if b then are_joined (is_part (parts.Bus true)) cs else are_joined (is_part (parts.Bus false)) (c ∷ cs)) ≡ true → AllIn (c ∷ cs)
bus_in true c cs colon is = (one 58 c (omega arith) (omega arith) colon, dotted_in (parts.Bus true) cs is)
bus_in false c cs none is = dotted_in (parts.Bus false) (c ∷ cs) is

name_in : (name : Name) (text : List ℕ) → is_name name text ≡ true → AllIn text
name_in names.Interface text is = dotted_in parts.Element text (and_parts _ _ is).1
name_in names.Member text is = element_in text (and_parts _ _ is).1
name_in names.Bus [] is = tt
name_in names.Bus (c ∷ cs) is = bus_in (eqb c 58) c cs refl (and_parts _ _ is).1

ascii : (text : List ℕ) → AllIn text → (i : ℕ) → slice_index text i < 128
ascii [] all i = omega arith
ascii (c ∷ cs) all zero = all.0.1
ascii (c ∷ cs) all (suc i) = ascii cs all.1 i

no_nul : (text : List ℕ) → AllIn text → list_any (λ byte. eqb byte 0) text ≡ false
no_nul [] all = refl
no_nul (c ∷ cs) all =
    let some : eqb c 0 ≡ false = ne_eqb c 0 (λ none. omega (arith, none, all.0.0)) in
    rw (some, no_nul cs all.1) refl

pub name_is_text : (name : Name) (text : List ℕ) → is_name name text ≡ true → is_text text ≡ true
name_is_text name text is =
    let all = name_in name text is in
    and_from _ _ (is_utf8-from_IsUtf8 text (IsUtf8-from_ascii text (ascii text all))) (rw (no_nul text all) refl)
