-- The grammar of IPv6 texts is std's relation.
use Rattle.std.proofs.Common.{◌≡◌, ℕ, ◌+◌, ◌-◌, ◌<◌, inl, inr, Bool, true, false, cond, ◌&&◌, eqb, ltb, List, [], ◌∷◌, ◌++◌, length, get_or, replicate, Option, Some, None, refl, sym, ap, ◌∙◌, subst, arith, append_assoc}
use Rattle.std.specs.Int.Digits.{number_from_digits}
use Rattle.std.specs.List.{join_with_byte}
use Rattle.std.specs.Net.Addr.{ipv6_segments}
use Rattle.std.specs.Net.Grammar.{IsColonHex, IsGroups, IsIpv6Text}
use Rattle.std.specs.Option.{option_map}
use Rattle.std.specs.declared.net.ipv6_addr.Ipv6Addr.{Ipv6Addr}
use Rattle.std.proofs.lemmas.Bool.{and_left, and_parts, eq-eqb, eqb-true, lt-ltb, ltb-true, true≢false}
use Rattle.std.proofs.lemmas.Option.{option_and_then_some}
use Rattle.fw_addr.specs.Addresses.{around_gap, eight, filled, groups_around, ipv6_groups, last_groups, side}
use Rattle.fw_addr.proofs.GroupsGrammar.{OnlyDecimals, Whole, side_is, side_some, spelled}
use Rattle.fw_addr.proofs.LawLemmas.{Lacks, ReadsDecimals}

-- no `::` stands in a text, and no `:` at its end
abbrev pub Clean : List ℕ → Type 0
Clean [] = Unit {0}
Clean (byte ∷ []) = eqb byte 58 ≡ false
Clean (byte ∷ next ∷ text) = ((eqb byte 58 && eqb next 58) ≡ false) × Clean (next ∷ text)

clean_lacks : (text : List ℕ) → Lacks 58 text → Clean text
clean_lacks [] lacks = tt
clean_lacks (byte ∷ []) lacks = lacks.0
clean_lacks (byte ∷ next ∷ text) lacks = (and_left (eqb byte 58) (eqb next 58) lacks.0, clean_lacks (next ∷ text) lacks.1)

-- such a text doesn't begin with `:` either
abbrev Good : List ℕ → Type 0
Good text = Clean text × (eqb (get_or text 0 58) 58 ≡ false)

good_lacks : (text : List ℕ) → 0 < length text → Lacks 58 text → Good text
good_lacks [] some lacks = absurd (omega arith)
good_lacks (byte ∷ text) some lacks = (clean_lacks (byte ∷ text) lacks, lacks.0)

clean_join : (byte : ℕ) (front : List ℕ) (next : ℕ) (text : List ℕ) → Lacks 58 (byte ∷ front) → eqb next 58 ≡ false → Clean (next ∷ text) → Clean ((byte ∷ front) ++ 58 ∷ next ∷ text)
clean_join byte [] next text lacks other clean = (and_left (eqb byte 58) true lacks.0, (other, clean))
clean_join byte (second ∷ front) next text lacks other clean = (and_left (eqb byte 58) (eqb second 58) lacks.0, clean_join second front next text lacks.1 other clean)

good_join : (front text : List ℕ) → 0 < length front → Lacks 58 front → Good text → Good (front ++ 58 ∷ text)
good_join [] text some lacks good = absurd (omega arith)
good_join (byte ∷ front) [] some lacks good = absurd (true≢false good.1)
good_join (byte ∷ front) (next ∷ text) some lacks good = (clean_join byte front next text lacks good.1 good.0, lacks.0)

good_pieces : (first : List ℕ) (others : List (List ℕ)) → Whole (first ∷ others) → Good (join_with_byte 58 (first ∷ others))
good_pieces first [] whole = good_lacks first whole.0 whole.1
good_pieces first (next ∷ others) whole = good_join first (join_with_byte 58 (next ∷ others)) whole.0 whole.1 (good_pieces next others whole.2)

clean_groups : ReadsDecimals → (with_ipv4 : Bool) (values text : List ℕ) → IsGroups with_ipv4 text values → Clean text
clean_groups reads with_ipv4 [] text is = subst Clean (sym is) tt
clean_groups reads with_ipv4 (value ∷ values) text is =
    let found = spelled reads with_ipv4 value values text is in
    subst Clean (sym found.joined) (good_pieces found.first found.others found.whole).0

no_gap : (text : List ℕ) → Clean text → around_gap text ≡ None
no_gap [] clean = refl
no_gap (byte ∷ []) clean = refl
no_gap (byte ∷ next ∷ text) clean = rw (clean.0, no_gap (next ∷ text) clean.1) refl

gap_behind : (front text : List ℕ) → Clean front → around_gap (front ++ 58 ∷ 58 ∷ text) ≡ Some (front, text)
gap_behind [] text clean = refl
gap_behind (byte ∷ []) text clean = rw clean refl
gap_behind (byte ∷ next ∷ front) text clean = rw (clean.0, gap_behind (next ∷ front) text clean.1) refl

-- where a gap is found, it stands there
gap_is : (text : List ℕ) (sides : List ℕ × List ℕ) → around_gap text ≡ Some sides → text ≡ sides.0 ++ 58 ∷ 58 ∷ sides.1
gap_is [] sides found = absurd (cc)
gap_is (byte ∷ []) sides found = absurd (cc)
gap_is (byte ∷ next ∷ text) sides found = by_test (eqb byte 58 && eqb next 58) refl found (gap_is (next ∷ text))
  where
    later : (rest : Option (List ℕ × List ℕ)) → around_gap (next ∷ text) ≡ rest → option_map (λ (two : List ℕ × List ℕ). (byte ∷ two.0, two.1)) rest ≡ Some sides
        → ((two : List ℕ × List ℕ) → around_gap (next ∷ text) ≡ Some two → next ∷ text ≡ two.0 ++ 58 ∷ 58 ∷ two.1) → byte ∷ next ∷ text ≡ sides.0 ++ 58 ∷ 58 ∷ sides.1
    later None is none behind = absurd (cc)
    later (Some two) is some behind =
        let same : (byte ∷ two.0, two.1) ≡ sides = cc in
        ap (λ (list : List ℕ). byte ∷ list) (behind two is) ∙ ap (λ (pair : List ℕ × List ℕ). pair.0 ++ 58 ∷ 58 ∷ pair.1) same

    by_test : (t : Bool) → (eqb byte 58 && eqb next 58) ≡ t → cond t (Some ([], text)) (option_map (λ (two : List ℕ × List ℕ). (byte ∷ two.0, two.1)) (around_gap (next ∷ text))) ≡ Some sides
        → ((two : List ℕ × List ℕ) → around_gap (next ∷ text) ≡ Some two → next ∷ text ≡ two.0 ++ 58 ∷ 58 ∷ two.1) → byte ∷ next ∷ text ≡ sides.0 ++ 58 ∷ 58 ∷ sides.1
    by_test true both some behind =
        let same : ([], text) ≡ sides = cc in
        let parts = and_parts (eqb byte 58) (eqb next 58) both in
        ap (λ b. b ∷ next ∷ text) (eqb-true byte 58 parts.0) ∙ ap (λ b. 58 ∷ b ∷ text) (eqb-true next 58 parts.1) ∙ ap (λ (pair : List ℕ × List ℕ). pair.0 ++ 58 ∷ 58 ∷ pair.1) same
    by_test false other some behind = later (around_gap (next ∷ text)) refl some behind

pub colon_hex_some : ReadsDecimals → (text values : List ℕ) → IsColonHex text values → groups_around text (around_gap text) ≡ Some values
colon_hex_some reads text values (inl h) =
    rw (no_gap text (clean_groups reads true values text h.0), side_some reads true values text h.0, eq-eqb (length values) 8 h.1) refl
colon_hex_some reads text values (inr h) =
    let gap : around_gap text ≡ Some (h.head_text, h.tail_text) = ap around_gap (h.spelled ∙ append_assoc h.head_text (58 ∷ 58 ∷ []) h.tail_text) ∙ gap_behind h.head_text h.tail_text (clean_groups reads false h.head h.head_text h.head_groups) in
    let many : 8 - (length h.head + length h.tail) ≡ 8 - length h.head - length h.tail = omega arith in
    let all : filled h.head h.tail ≡ Some values = rw (lt-ltb (length h.head + length h.tail) 8 h.room, many) (ap Some (sym h.value)) in
    rw (gap, side_some reads false h.head h.head_text h.head_groups, side_some reads true h.tail h.tail_text h.tail_groups) all

pub colon_hex_is : OnlyDecimals → (text values : List ℕ) → groups_around text (around_gap text) ≡ Some values → IsColonHex text values
colon_hex_is only text values found = by_gap (around_gap text) refl found
  where
    by_eight : (read : List ℕ) → IsGroups true text read → (t : Bool) → eqb (length read) 8 ≡ t → cond t (Some read) None ≡ Some values → IsColonHex text values
    by_eight read groups_are true full some =
        let same : read ≡ values = cc in
        subst (IsColonHex text) same (inl (groups_are, eqb-true (length read) 8 full))
    by_eight read groups_are false full some = absurd (cc)

    by_room : (sides : List ℕ × List ℕ) → around_gap text ≡ Some sides → (head tail : List ℕ) → IsGroups false sides.0 head → IsGroups true sides.1 tail → (t : Bool) → ltb (length head + length tail) 8 ≡ t
        → cond t (Some (head ++ replicate (8 - (length head + length tail)) 0 ++ tail)) None ≡ Some values → IsColonHex text values
    by_room sides gap head tail before behind true room some =
        let many : 8 - (length head + length tail) ≡ 8 - length head - length tail = omega arith in
        let same : head ++ replicate (8 - (length head + length tail)) 0 ++ tail ≡ values = cc in
        inr (record {
          head_text = sides.0;
          tail_text = sides.1;
          head = head;
          tail = tail;
          spelled = gap_is text sides gap ∙ sym (append_assoc sides.0 (58 ∷ 58 ∷ []) sides.1);
          head_groups = before;
          tail_groups = behind;
          room = ltb-true (length head + length tail) 8 room;
          value = sym same ∙ ap (λ n. head ++ replicate n 0 ++ tail) many;
        })
    by_room sides gap head tail before behind false room some = absurd (cc)

    by_gap : (gap : Option (List ℕ × List ℕ)) → around_gap text ≡ gap → groups_around text gap ≡ Some values → IsColonHex text values
    by_gap None gap some =
        option_and_then_some eight (side (last_groups true) text) values some λ read is kept.
        by_eight read (side_is only true text read is) (eqb (length read) 8) refl kept
    by_gap (Some sides) gap some =
        option_and_then_some _ (side (last_groups false) sides.0) values some λ head is kept.
        option_and_then_some _ (side (last_groups true) sides.1) values kept λ tail is_tail all.
        by_room sides gap head tail (side_is only false sides.0 head is) (side_is only true sides.1 tail is_tail) (ltb (length head + length tail) 8) refl all

-- what reading by std's relation finds
pub found_groups : ReadsDecimals → (text : List ℕ) (address : Ipv6Addr) → IsIpv6Text text address → option_map (number_from_digits 65536) (ipv6_groups text) ≡ Some (number_from_digits 65536 (ipv6_segments address))
found_groups reads text address is = ap (option_map (number_from_digits 65536)) (colon_hex_some reads text (ipv6_segments address) is)

pub found_none : OnlyDecimals → (text : List ℕ) → ((address : Ipv6Addr) → ¬ (IsIpv6Text text address)) → option_map (number_from_digits 65536) (ipv6_groups text) ≡ None
found_none only text none = by_groups (ipv6_groups text) refl
  where
    by_groups : (found : Option (List ℕ)) → ipv6_groups text ≡ found → option_map (number_from_digits 65536) found ≡ None
    by_groups None is = refl
    by_groups (Some values) is = absurd (none (record { segments = values }) (colon_hex_is only text values is))
