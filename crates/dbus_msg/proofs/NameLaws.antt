-- Parts between dots, one after the other.
use Rattle.std.proofs.Common.{◌≡◌, ℕ, ◌+◌, ◌<◌, ◌≤◌, Bool, true, false, List, ◌∷◌, length, take, drop, Option, None, Some, refl, sym, ap, ◌∙◌, arith, inl, inr}
use Rattle.std.specs.Prelude.{◌&&◌}
use Rattle.std.specs.List.{list_all, position_or_len, slice_split}
use Rattle.std.proofs.lemmas.List.Splits.{slice_split_first, slice_split_none}
use Rattle.std.proofs.lemmas.List.Sums.{fails_before_first, position_or_len_is}
use Rattle.std.proofs.lemmas.Bool.{and_from, and_left, cases_lt, false_from_ne_true}
use Rattle.std.proofs.lemmas.List.{drop-drop, length-drop, take_all}
use Rattle.std.specs.Option.{unwrap_or}
use Rattle.memchr.specs.Find.{IsFirstByte, is_byte}
use Rattle.dbus_msg.specs.Names.{is_dot}

-- what is said of all parts
abbrev pub all_parts : (List ℕ → Bool) → List ℕ → Bool
all_parts q text = list_all q (slice_split is_dot text)

pub parts_go_on : (q : List ℕ → Bool) (text : List ℕ) (dot : ℕ) → dot ≡ position_or_len is_dot text → dot < length text → all_parts q text ≡ (q (take dot text) && all_parts q (drop (dot + 1) text))
parts_go_on q text dot is lt = rw is (ap (list_all q) (slice_split_first is_dot text 0 (let h : position_or_len is_dot text < length text = rw (← is) lt in h)))

pub parts_end : (q : List ℕ → Bool) (text : List ℕ) (dot : ℕ) → dot ≡ position_or_len is_dot text → length text ≤ dot → all_parts q text ≡ (q text && true)
parts_end q text dot is le = ap (list_all q) (slice_split_none is_dot text (λ k d below. fails_before_first is_dot text k d (omega (arith, is, le))))

pub parts_fail : (q : List ℕ → Bool) (text all : List ℕ) (dot : ℕ) → dot ≡ position_or_len is_dot text → dot ≤ length text → q (take dot text) ≡ false → all_parts q text ≡ all_parts q all → false ≡ all_parts q all
parts_fail q text all dot is le wrong same =
    elim (cases_lt dot (length text)) [
      | inl lt ↦ sym (and_left _ (all_parts q (drop (dot + 1) text)) wrong) ∙ sym (parts_go_on q text dot is lt) ∙ same
      | inr ge ↦
          let whole : take dot text ≡ text = take_all dot text ge in
          sym (and_left _ true (ap q (sym whole) ∙ wrong)) ∙ sym (parts_end q text dot is ge) ∙ same
    ]

pub parts_done : (q : List ℕ → Bool) (text all : List ℕ) (dot : ℕ) → dot ≡ position_or_len is_dot text → dot ≡ length text → q (take dot text) ≡ true → all_parts q text ≡ all_parts q all → true ≡ all_parts q all
parts_done q text all dot is end right same =
    let whole : take dot text ≡ text = take_all dot text (omega arith) in
    sym (and_from (q text) true (ap q (sym whole) ∙ right) refl) ∙ sym (parts_end q text dot is (omega arith)) ∙ same

pub parts_more : (q : List ℕ → Bool) (text all : List ℕ) (dot : ℕ) → dot ≡ position_or_len is_dot text → dot < length text → q (take dot text) ≡ true → all_parts q text ≡ all_parts q all → all_parts q (drop (dot + 1) text) ≡ all_parts q all
parts_more q text all dot is lt right same = ap (λ (b : Bool). b && all_parts q (drop (dot + 1) text)) (sym right) ∙ sym (parts_go_on q text dot is lt) ∙ same

-- what stands behind the dot
next_rest : (text : List ℕ) (dot c : ℕ) (more : List ℕ) → drop dot text ≡ c ∷ more → (dot < length text) × (drop (dot + 1) text ≡ more)
next_rest text dot c more is = (omega (arith, length-drop dot text, ap length is), sym (drop-drop 1 dot text) ∙ ap (drop 1) is)

no_rest : (text : List ℕ) (dot : ℕ) → dot ≤ length text → length (drop dot text) ≡ 0 → dot ≡ length text
no_rest text dot le none = omega (arith, length-drop dot text, none)

pub parts_end_here : (q : List ℕ → Bool) (text all : List ℕ) (dot : ℕ) → dot ≡ position_or_len is_dot text → dot ≤ length text → length (drop dot text) ≡ 0 → q (take dot text) ≡ true → all_parts q text ≡ all_parts q all → true ≡ all_parts q all
parts_end_here q text all dot is le none right same = parts_done q text all dot is (no_rest text dot le none) right same

pub parts_go_behind : (q : List ℕ → Bool) (text all : List ℕ) (dot c : ℕ) (more : List ℕ) → dot ≡ position_or_len is_dot text → drop dot text ≡ c ∷ more → q (take dot text) ≡ true → all_parts q text ≡ all_parts q all → all_parts q more ≡ all_parts q all
parts_go_behind q text all dot c more is split right same =
    let next = next_rest text dot c more split in
    ap (all_parts q) (sym next.1) ∙ parts_more q text all dot is next.0 right same

-- where the first dot stands
pub first_dot : (text : List ℕ) (found : Option ℕ) → IsFirstByte (is_byte 46) text found → unwrap_or found (length text) ≡ position_or_len is_dot text
first_dot text None none =
    sym (position_or_len_is is_dot text (length text) 0 (omega arith) (λ k below. false_from_ne_true _ (none k (omega arith) below)) (λ past. absurd (omega arith)))
first_dot text (Some at) some =
    sym (position_or_len_is is_dot text at 0 (omega (arith, some.0.high)) (λ k below. false_from_ne_true _ (some.0.before k (omega arith) below)) (λ _. some.1))
