-- The first LF of bytes within a limit, and what the bytes ahead decide, by numbers.
use Rattle.std.proofs.Common.{◌≡◌, ℕ, zero, suc, ◌-◌, ◌≤◌, Bool, not, List, [], ◌∷◌, length, take, min, Option, None, Some, slice_range, length-drop, refl, sym, ◌∙◌, arith}
use Rattle.std.specs.List.{prefix_len, position_or_len, before_first}
use Rattle.std.proofs.lemmas.List.Folds.{length-prefix_len}
use Rattle.std.proofs.lemmas.List.{length-take}
use Rattle.std.specs.Option.{unwrap_or}
use Rattle.std.proofs.lemmas.List.Sums.{position_or_len_is, prefix_len-le-length}
use Rattle.std.proofs.lemmas.Bool.{false_from_ne_true}
use Rattle.memchr.specs.Find.{IsFirstByte, is_byte}
use Rattle.fw_input.specs.Lines.{is_lf}
use Rattle.fw_input.specs.Reading.{Reader, decided}
use Rattle.fw_input.specs.Refilling.{choice}

pub prefix_len-take : {X : Type 0} (p : X → Bool) (n : ℕ) (xs : List X) → prefix_len p (take n xs) ≡ min n (prefix_len p xs)
prefix_len-take p zero xs = grind arith
prefix_len-take p (suc n) [] = grind arith
prefix_len-take p (suc n) (x ∷ xs) = grind (arith, prefix_len-take p n xs)

pub length-line : (budget : ℕ) (bytes : List ℕ) → length (before_first is_lf (take budget bytes)) ≡ min budget (position_or_len is_lf bytes)
length-line budget bytes =
    length-prefix_len (λ b. not (is_lf b)) (take budget bytes) ∙ prefix_len-take (λ b. not (is_lf b)) budget bytes

-- the decision by numbers: so many bytes stand before the first LF, of so many bytes ahead
pub decision-choice : (r : Reader) (first all : ℕ) → position_or_len is_lf r.ahead ≡ first → length r.ahead ≡ all → decided r ≡ choice r.line_limit r.budget first all
unfolding decided
decision-choice r first all is_first is_all = rw (length-line, is_first, length-take, is_all) refl

pub length-slice_range : (bytes : List ℕ) (start end : ℕ) → end ≤ length bytes → length (slice_range bytes start end) ≡ end - start
length-slice_range bytes start end inside = simp (length-take, length-drop) (omega arith)

pub first_byte-position : (bytes : List ℕ) (found : Option ℕ) → IsFirstByte (is_byte 10) bytes found → unwrap_or found (length bytes) ≡ position_or_len is_lf bytes
first_byte-position bytes None none =
    sym (position_or_len_is is_lf bytes (length bytes) 0 (omega arith) (λ k below. false_from_ne_true _ (none k (omega arith) below)) (λ past. absurd (omega arith)))
first_byte-position bytes (Some at) some =
    sym (position_or_len_is is_lf bytes at 0 (omega (arith, some.0.high)) (λ k below. false_from_ne_true _ (some.0.before k (omega arith) below)) (λ _. some.1))

pub position-slice_range : (bytes : List ℕ) (start end : ℕ) → position_or_len is_lf (slice_range bytes start end) ≤ end - start
position-slice_range bytes start end =
    let within = prefix_len-le-length (λ b. not (is_lf b)) (slice_range bytes start end) in
    let short : length (slice_range bytes start end) ≤ end - start = rw length-take (omega arith) in
    omega arith
