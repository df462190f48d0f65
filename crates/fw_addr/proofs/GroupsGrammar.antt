-- The groups of an IPv6 text by their pieces, and by the relation that std has for such texts, are the same.
use Rattle.std.proofs.Common.{◌≡◌, ℕ, ◌+◌, ◌*◌, ◌/◌, ◌%◌, ◌^◌, ◌<◌, ◌≤◌, inl, inr, Bool, true, false, cond, not, ◌&&◌, eqb, leb, List, [], ◌∷◌, ◌++◌, length, Option, Some, None, refl, sym, ap, ◌∙◌, subst, arith, lit≤, length-append, append_assoc, append-nil}
use Rattle.std.specs.Char.{digit_value}
use Rattle.std.specs.Fmt.{decimal}
use Rattle.std.specs.List.{join_with_byte, list_all}
use Rattle.std.specs.Net.Addr.{segments_of}
use Rattle.std.specs.Net.Grammar.{IsDotted, IsGroup, IsGroups, IsGroupsAfter}
use Rattle.std.specs.Net.Text.{dotted_text}
use Rattle.std.specs.Option.{option_map, option_or}
use Rattle.std.specs.Str.Parse.{AllDigits, digits_value}
use Rattle.std.proofs.lemmas.Bool.{and_parts, le-leb, leb-true, lt-ltb, ltb-true, ne_eqb, not-true, eq-eqb, true≢false}
use Rattle.std.proofs.lemmas.List.Splits.{join_with_byte-slice_split}
use Rattle.std.proofs.lemmas.Option.{option_and_then_some}
use Rattle.fw_text.specs.Number.{number, number_to}
use Rattle.fw_text.specs.Pieces.{pieces}
use Rattle.fw_text.specs.Steps.{◌>>=◌}
use Rattle.fw_addr.specs.Addresses.{group, groups, ipv4, last_groups, octets, side, two_groups}
use Rattle.fw_addr.specs.Hexadecimal.{is_hex}
use Rattle.fw_addr.proofs.LawLemmas.{AllLack, Lacks, ReadsDecimals, decimal_lacks, digits_lack, lacks_join, number_to-decimal, pieces_join, pieces_last}
use Rattle.fw_addr.proofs.PieceLemmas.{some_piece}

-- one group
all_hex : (text : List ℕ) → AllDigits 16 text → list_all is_hex text ≡ true
all_hex [] all = refl
all_hex (first ∷ text) all = rw (lt-ltb (digit_value first) 16 all.0, all_hex text all.1) refl

hex_all : (text : List ℕ) → list_all is_hex text ≡ true → AllDigits 16 text
hex_all [] all = tt
hex_all (first ∷ text) all =
    let parts = and_parts (is_hex first) (list_all is_hex text) all in
    (ltb-true (digit_value first) 16 parts.0, hex_all text parts.1)

pub group_some : (text : List ℕ) (value : ℕ) → IsGroup text value → group text ≡ Some value
group_some text value is =
    let some : eqb (length text) 0 ≡ false = ne_eqb (length text) 0 (λ none. absurd (omega (arith, is.0.0.0, none))) in
    rw (some, le-leb (length text) 4 is.1, all_hex text is.0.0.1) (ap Some is.0.1)

pub group_is : (text : List ℕ) (value : ℕ) → group text ≡ Some value → IsGroup text value
group_is text value found = by_test (not (eqb (length text) 0)) (leb (length text) 4) (list_all is_hex text) refl refl refl found
  where
    by_test : (some short all : Bool) → not (eqb (length text) 0) ≡ some → leb (length text) 4 ≡ short → list_all is_hex text ≡ all → cond (some && short && all) (Some (digits_value 16 text)) None ≡ Some value → IsGroup text value
    by_test true true true some short all is =
        let has : length text ≡ 0 → ⊥ = λ none. true≢false (sym (eq-eqb (length text) 0 none) ∙ not-true (eqb (length text) 0) some) in
        let value_is : digits_value 16 text ≡ value = cc in
        (((omega (arith, has), hex_all text all), value_is), leb-true (length text) 4 short)
    by_test true true false some short all is = absurd (cc)
    by_test true false all some short every is = absurd (cc)
    by_test false short all some within every is = absurd (cc)

-- four decimal numbers
abbrev pub dotted : (a b c d : ℕ) → List ℕ
dotted a b c d = join_with_byte 46 (decimal a ∷ decimal b ∷ decimal c ∷ decimal d ∷ [])

dotted_same : (a b c d : ℕ) → dotted_text a b c d ≡ dotted a b c d
dotted_same a b c d = simp append_assoc

pub dotted_some : ReadsDecimals → (a b c d : ℕ) → a < 256 → b < 256 → c < 256 → d < 256 → ipv4 (dotted a b c d) ≡ Some (((a * 256 + b) * 256 + c) * 256 + d)
dotted_some reads a b c d fit_a fit_b fit_c fit_d =
    let lacks = λ (m : ℕ) (fits : m < 256). decimal_lacks 46 m (lit≤ tt) (omega (arith, fits)) in
    let back = λ (m : ℕ) (fits : m < 256). number_to-decimal reads 255 m (omega (arith, fits)) (omega (arith, fits)) in
    let parts = pieces_join 46 (decimal a) (decimal b ∷ decimal c ∷ decimal d ∷ []) (lacks a fit_a) (lacks b fit_b, (lacks c fit_c, (lacks d fit_d, tt))) in
    ap octets parts ∙ rw (back a fit_a, back b fit_b, back c fit_c, back d fit_d) refl

pub two_some : ReadsDecimals → (text o : List ℕ) → IsDotted text o → two_groups text ≡ Some (segments_of o)
two_some reads text o is =
    let found : ipv4 text ≡ Some (((is.a * 256 + is.b) * 256 + is.c) * 256 + is.d) = ap ipv4 (is.spelled ∙ dotted_same is.a is.b is.c is.d) ∙ dotted_some reads is.a is.b is.c is.d is.fit.0 is.fit.1 is.fit.2 is.fit.3 in
    let n = ((is.a * 256 + is.b) * 256 + is.c) * 256 + is.d in
    let high : n / 65536 ≡ is.a * 256 + is.b = omega (arith, is.fit.0, is.fit.1, is.fit.2, is.fit.3) in
    let low : n % 65536 ≡ is.c * 256 + is.d = omega (arith, is.fit.0, is.fit.1, is.fit.2, is.fit.3) in
    rw (found, high, low) (ap (λ (list : List ℕ). Some (segments_of list)) (sym is.value))

-- and no number but those has such a text
abbrev pub OnlyDecimals : Type 0
OnlyDecimals = (text : List ℕ) (n : ℕ) → n < 2 ^ 64 → number text ≡ Some n → text ≡ decimal n

octet_is : OnlyDecimals → (text : List ℕ) (n : ℕ) → number_to 255 text ≡ Some n → (n < 256) × (text ≡ decimal n)
octet_is only text n found = by_number (number text) refl found
  where
    by_number : (read : Option ℕ) → number text ≡ read → (read >>= λ m. cond (leb m 255) (Some m) None) ≡ Some n → (n < 256) × (text ≡ decimal n)
    by_number None is none = absurd (cc)
    by_number (Some m) is kept = by_test (leb m 255) refl kept
      where
        by_test : (t : Bool) → leb m 255 ≡ t → cond t (Some m) None ≡ Some n → (n < 256) × (text ≡ decimal n)
        by_test true within some =
            let same : m ≡ n = cc in
            let small : m ≤ 255 = leb-true m 255 within in
            (omega (arith, small, same), only text m (omega (arith, small)) is ∙ ap decimal same)
        by_test false within some = absurd (cc)

-- an IPv4 text is four pieces
pub dotted_is : OnlyDecimals → (text : List ℕ) (n : ℕ) → ipv4 text ≡ Some n → (o : List ℕ) × IsDotted text o × (n / 65536 ∷ n % 65536 ∷ [] ≡ segments_of o)
dotted_is only text n found = by_pieces (pieces 46 text) (join_with_byte-slice_split 46 text) found
  where
    by_pieces : (parts : List (List ℕ)) → join_with_byte 46 parts ≡ text → octets parts ≡ Some n → (o : List ℕ) × IsDotted text o × (n / 65536 ∷ n % 65536 ∷ [] ≡ segments_of o)
    by_pieces [] joined is = absurd (cc)
    by_pieces (p ∷ []) joined is = absurd (cc)
    by_pieces (p ∷ q ∷ []) joined is = absurd (cc)
    by_pieces (p ∷ q ∷ r ∷ []) joined is = absurd (cc)
    by_pieces (p ∷ q ∷ r ∷ s ∷ []) joined is =
        option_and_then_some _ (number_to 255 p) n is λ a read_a is_a.
        option_and_then_some _ (number_to 255 q) n is_a λ b read_b is_b.
        option_and_then_some _ (number_to 255 r) n is_b λ c read_c is_c.
        option_and_then_some _ (number_to 255 s) n is_c λ d read_d is_d.
        let first = octet_is only p a read_a in
        let second = octet_is only q b read_b in
        let third = octet_is only r c read_c in
        let fourth = octet_is only s d read_d in
        let value : ((a * 256 + b) * 256 + c) * 256 + d ≡ n = cc in
        let high : n / 65536 ≡ a * 256 + b = omega (arith, first.0, second.0, third.0, fourth.0, value) in
        let low : n % 65536 ≡ c * 256 + d = omega (arith, first.0, second.0, third.0, fourth.0, value) in
        let spelled : join_with_byte 46 (p ∷ q ∷ r ∷ s ∷ []) ≡ dotted_text a b c d = rw (first.1, second.1, third.1, fourth.1) (sym (dotted_same a b c d)) in (
          a ∷ b ∷ c ∷ d ∷ [],
          record { a = a; b = b; c = c; d = d; fit = (first.0, second.0, third.0, fourth.0); value = refl; spelled = sym joined ∙ spelled },
          rw (high, low) refl,
        )
    by_pieces (p ∷ q ∷ r ∷ s ∷ t ∷ more) joined is = absurd (cc)

-- no such text is a group
dotted_no_group : (text : List ℕ) (n : ℕ) → ipv4 text ≡ Some n → group text ≡ None
dotted_no_group text n found = by_group (group text) refl
  where
    by_group : (read : Option ℕ) → group text ≡ read → read ≡ None
    by_group None is = refl
    by_group (Some value) is =
        let digits = (group_is text value is).0.0.1 in
        let none : ipv4 text ≡ None = ap octets (pieces_last 46 text (digits_lack 16 46 text (lit≤ tt) digits)) in
        absurd (let both : Some n ≡ None = sym found ∙ none in cc)

-- pieces that aren't empty and have no `:`
abbrev pub Whole : List (List ℕ) → Type 0
Whole [] = Unit {0}
Whole (piece ∷ pieces) = (0 < length piece) × Lacks 58 piece × Whole pieces

whole_lacks : (texts : List (List ℕ)) → Whole texts → AllLack 58 texts
whole_lacks [] whole = tt
whole_lacks (text ∷ texts) whole = (whole.1, whole_lacks texts whole.2)

-- the pieces that spell groups
pub record Spelled (with_ipv4 : Bool) (text values : List ℕ) : Type 0 where
  pub first : List ℕ
  pub others : List (List ℕ)
  pub joined : text ≡ join_with_byte 58 (first ∷ others)
  pub whole : Whole (first ∷ others)
  pub read : groups (last_groups with_ipv4) (first ∷ others) ≡ Some values

one_some : (with_ipv4 : Bool) (text : List ℕ) (value : ℕ) → IsGroup text value → last_groups with_ipv4 text ≡ Some (value ∷ [])
one_some false text value is = rw (group_some text value is) refl
one_some true text value is = rw (group_some text value is) refl

group_spelled : (with_ipv4 : Bool) (text : List ℕ) (value : ℕ) → IsGroup text value → Spelled with_ipv4 text (value ∷ [])
group_spelled with_ipv4 text value is = record {
  first = text;
  others = [];
  joined = refl;
  whole = (is.0.0.0, digits_lack 16 58 text (lit≤ tt) is.0.0.1, tt);
  read = one_some with_ipv4 text value is;
}

more_spelled : (with_ipv4 : Bool) (text rest : List ℕ) (value : ℕ) (values : List ℕ) → IsGroup text value → Spelled with_ipv4 rest values → Spelled with_ipv4 (text ++ 58 ∷ rest) (value ∷ values)
more_spelled with_ipv4 text rest value values is later = record {
  first = text;
  others = later.first ∷ later.others;
  joined = ap (λ (list : List ℕ). text ++ 58 ∷ list) later.joined;
  whole = (is.0.0.0, digits_lack 16 58 text (lit≤ tt) is.0.0.1, later.whole);
  read = rw (group_some text value is, later.read) refl;
}

dotted_lacks : (a b c d : ℕ) → a < 256 → b < 256 → c < 256 → d < 256 → Lacks 58 (dotted a b c d)
dotted_lacks a b c d fit_a fit_b fit_c fit_d =
    let lacks = λ (m : ℕ) (fits : m < 256). decimal_lacks 58 m (lit≤ tt) (omega (arith, fits)) in
    lacks_join 46 58 (decimal a) (decimal b ∷ decimal c ∷ decimal d ∷ []) refl (lacks a fit_a) (lacks b fit_b, (lacks c fit_c, (lacks d fit_d, tt)))

some_dotted : (a b c d : ℕ) → 0 < length (dotted a b c d)
some_dotted a b c d = omega (arith, length-append (decimal a) (46 ∷ join_with_byte 46 (decimal b ∷ decimal c ∷ decimal d ∷ [])))

two_spelled : ReadsDecimals → (text o : List ℕ) → IsDotted text o → Spelled true text (segments_of o)
two_spelled reads text o is =
    let n = ((is.a * 256 + is.b) * 256 + is.c) * 256 + is.d in
    let same : text ≡ dotted is.a is.b is.c is.d = is.spelled ∙ dotted_same is.a is.b is.c is.d in
    let found : ipv4 text ≡ Some n = ap ipv4 (is.spelled ∙ dotted_same is.a is.b is.c is.d) ∙ dotted_some reads is.a is.b is.c is.d is.fit.0 is.fit.1 is.fit.2 is.fit.3 in
    record {
      first = text;
      others = [];
      joined = refl;
      whole = (subst (λ (list : List ℕ). 0 < length list) (sym same) (some_dotted is.a is.b is.c is.d), subst (Lacks 58) (sym same) (dotted_lacks is.a is.b is.c is.d is.fit.0 is.fit.1 is.fit.2 is.fit.3), tt);
      read = rw (dotted_no_group text n found, two_some reads text o is) refl;
    }

-- groups by the relation are groups by their pieces
spelled_after : ReadsDecimals → (with_ipv4 : Bool) (value : ℕ) (values lead text : List ℕ) → IsGroupsAfter with_ipv4 lead text (value ∷ values) → (body : List ℕ) × (text ≡ lead ++ body) × Spelled with_ipv4 body (value ∷ values)
spelled_after reads with_ipv4 value [] lead text (inl h) =
    let (piece, rest, split, is, more) = h in
    (piece, split ∙ ap (λ (list : List ℕ). (lead ++ piece) ++ list) more ∙ append-nil (lead ++ piece), group_spelled with_ipv4 piece value is)
spelled_after reads with_ipv4 value (next ∷ values) lead text (inl h) =
    let (piece, rest, split, is, more) = h in
    let later = spelled_after reads with_ipv4 next values (58 ∷ []) rest more in
    (piece ++ 58 ∷ later.0, split ∙ ap (λ (list : List ℕ). (lead ++ piece) ++ list) later.1 ∙ append_assoc lead piece (58 ∷ later.0), more_spelled with_ipv4 piece later.0 value (next ∷ values) is later.2)
spelled_after reads with_ipv4 value values lead text (inr h) =
    let (last, o, allowed, split, dotted, is) = h in
    let spelled = two_spelled reads last o dotted in
    let P : Bool → List ℕ → Type 0 = λ b list. Spelled b last list in
    (last, split, subst (λ (b : Bool). P b (value ∷ values)) (sym allowed) (subst (P true) (sym is) spelled))

pub spelled : ReadsDecimals → (with_ipv4 : Bool) (value : ℕ) (values text : List ℕ) → IsGroups with_ipv4 text (value ∷ values) → Spelled with_ipv4 text (value ∷ values)
spelled reads with_ipv4 value values text is =
    let found = spelled_after reads with_ipv4 value values [] text is in
    subst (λ (list : List ℕ). Spelled with_ipv4 list (value ∷ values)) (sym found.1) found.2

some_joined : (first : List ℕ) (others : List (List ℕ)) → 0 < length first → 0 < length (join_with_byte 58 (first ∷ others))
some_joined first [] some = some
some_joined first (next ∷ others) some = omega (arith, some, length-append first (58 ∷ join_with_byte 58 (next ∷ others)))

-- a text that isn't empty has the groups of its pieces
side_pieces : (last : List ℕ → Option (List ℕ)) (text : List ℕ) → 0 < length text → side last text ≡ groups last (pieces 58 text)
side_pieces last [] some = absurd (omega arith)
side_pieces last (byte ∷ text) some = refl

pub side_some : ReadsDecimals → (with_ipv4 : Bool) (values text : List ℕ) → IsGroups with_ipv4 text values → side (last_groups with_ipv4) text ≡ Some values
side_some reads with_ipv4 [] text is = rw is refl
side_some reads with_ipv4 (value ∷ values) text is =
    let found = spelled reads with_ipv4 value values text is in
    let body = join_with_byte 58 (found.first ∷ found.others) in
    let some : 0 < length body = some_joined found.first found.others found.whole.0 in
    let cut = pieces_join 58 found.first found.others found.whole.1 (whole_lacks found.others found.whole.2) in
    ap (side (last_groups with_ipv4)) found.joined ∙ side_pieces (last_groups with_ipv4) body some ∙ ap (groups (last_groups with_ipv4)) cut ∙ found.read

-- and groups by their pieces are groups by the relation
last_is : OnlyDecimals → (with_ipv4 : Bool) (lead text values : List ℕ) → last_groups with_ipv4 text ≡ Some values → IsGroupsAfter with_ipv4 lead (lead ++ text) values
last_is only with_ipv4 lead text values found = by_group (group text) refl with_ipv4 found
  where
    alone : (value : ℕ) → group text ≡ Some value → (b : Bool) → values ≡ value ∷ [] → IsGroupsAfter b lead (lead ++ text) values
    alone value is b values_are =
        subst (IsGroupsAfter b lead (lead ++ text)) (sym values_are) (inl (text, [], sym (append-nil (lead ++ text)), group_is text value is, refl))

    pair : (read : Option ℕ) → ipv4 text ≡ read → option_map (λ value. value / 65536 ∷ value % 65536 ∷ []) read ≡ Some values → IsGroupsAfter true lead (lead ++ text) values
    pair None is none = absurd (cc)
    pair (Some n) is some =
        let found_octets = dotted_is only text n is in
        let values_are : values ≡ n / 65536 ∷ n % 65536 ∷ [] = cc in
        subst (IsGroupsAfter true lead (lead ++ text)) (sym values_are) (inr (text, found_octets.0, refl, refl, found_octets.1, found_octets.2))

    by_group : (read : Option ℕ) → group text ≡ read → (b : Bool) → last_groups b text ≡ Some values → IsGroupsAfter b lead (lead ++ text) values
    by_group (Some value) is false some = alone value is false (let same : Some (value ∷ []) ≡ Some values = sym (ap (λ (o : Option ℕ). option_map (λ v. v ∷ []) o) is) ∙ some in cc)
    by_group (Some value) is true some = alone value is true (let same : Some (value ∷ []) ≡ Some values = sym (ap (λ (o : Option ℕ). option_or (option_map (λ v. v ∷ []) o) (two_groups text)) is) ∙ some in cc)
    by_group None is false some = absurd (let none : None ≡ Some values = sym (ap (λ (o : Option ℕ). option_map (λ v. v ∷ []) o) is) ∙ some in cc)
    by_group None is true some = pair (ipv4 text) refl (sym (ap (λ (o : Option ℕ). option_or (option_map (λ v. v ∷ []) o) (two_groups text)) is) ∙ some)

groups_are : OnlyDecimals → (with_ipv4 : Bool) (lead first : List ℕ) (others : List (List ℕ)) (values : List ℕ) → groups (last_groups with_ipv4) (first ∷ others) ≡ Some values → IsGroupsAfter with_ipv4 lead (lead ++ join_with_byte 58 (first ∷ others)) values
groups_are only with_ipv4 lead first [] values found = last_is only with_ipv4 lead first values found
groups_are only with_ipv4 lead first (next ∷ others) values found =
    option_and_then_some _ (group first) values found λ value read kept.
    option_and_then_some _ (groups (last_groups with_ipv4) (next ∷ others)) values kept λ later rest same.
    let values_are : value ∷ later ≡ values = cc in
    subst (IsGroupsAfter with_ipv4 lead (lead ++ join_with_byte 58 (first ∷ next ∷ others))) values_are
    (inl (first, 58 ∷ join_with_byte 58 (next ∷ others), sym (append_assoc lead first (58 ∷ join_with_byte 58 (next ∷ others))), group_is first value read, groups_are only with_ipv4 (58 ∷ []) next others later rest))

pub side_is : OnlyDecimals → (with_ipv4 : Bool) (text values : List ℕ) → side (last_groups with_ipv4) text ≡ Some values → IsGroups with_ipv4 text values
side_is only with_ipv4 [] values found = let none : [] ≡ values = cc in subst (IsGroups with_ipv4 []) none refl
side_is only with_ipv4 (byte ∷ text) values found =
    let parts = some_piece 58 (byte ∷ text) in
    let joined : join_with_byte 58 (parts.0 ∷ parts.1) ≡ byte ∷ text = ap (join_with_byte 58) (sym parts.2) ∙ join_with_byte-slice_split 58 (byte ∷ text) in
    subst (λ (list : List ℕ). IsGroups with_ipv4 list values) joined (groups_are only with_ipv4 [] parts.0 parts.1 values (ap (groups (last_groups with_ipv4)) (sym parts.2) ∙ found))
