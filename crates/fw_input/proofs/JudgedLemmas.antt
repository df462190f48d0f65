-- A judgement goes on by what comes next.
use Rattle.std.proofs.Common.{◌≡◌, ℕ, suc, ◌+◌, ◌-◌, ◌<◌, ◌≤◌, Bool, true, false, not, cond, List, [], ◌∷◌, length, take, drop, min, nat_lt, nat_le, take_while, take_all, inl, inr, refl, sym, ◌∙◌, ap, arith}
use Rattle.std.specs.List.{position_or_len, before_first, after_first, slice_split}
use Rattle.std.proofs.lemmas.Bool.{lt-ltb, le-ltb, lt-leb, le-leb, ne_eqb, cases_lt}
use Rattle.std.proofs.lemmas.Bool.Decides.{nat_tests}
use Rattle.std.proofs.lemmas.List.{length-take, length-drop, drop-take}
use Rattle.std.proofs.Math.Seq.{take-nil}
use Rattle.std.proofs.lemmas.List.Folds.{length-prefix_len}
use Rattle.std.proofs.lemmas.List.Splits.{slice_split_first, slice_split_none, length-slice_split}
use Rattle.std.proofs.lemmas.List.Sums.{prefix_len-le-length, take_while-cons, fails_before_first}
use Rattle.fw_input.specs.Lines.{is_lf, next, Next, Line, Over, End, LineTooLong, InputTooLong, Judgement, judged, no_line, with_line, whole_lines, all_lines}
use Rattle.fw_input.proofs.LineLemmas.{prefix_len-take, length-line}
use Rattle.fw_input.proofs.NextLemmas.{line-within, position-within, next-long, next-line, next-input, next-last, next-end}

-- the judgement by the pieces and those of them before the first that is too long
abbrev judged_by : (beyond : Bool) (pieces short : List (List ℕ)) → Judgement
judged_by beyond pieces short =
    cond (nat_lt (length short) (length pieces)) (record { lines = short; ending = LineTooLong })
    (cond beyond (record { lines = whole_lines pieces; ending = InputTooLong }) (record { lines = all_lines pieces; ending = End }))

abbrev judged_pieces : (limit : ℕ) (beyond : Bool) → List (List ℕ) → Judgement
judged_pieces limit beyond pieces = judged_by beyond pieces (take_while (λ piece. nat_le (length piece) limit) pieces)

judged-pieces : (limit budget : ℕ) (bytes : List ℕ) → judged limit budget bytes ≡ judged_pieces limit (nat_lt budget (length bytes)) (slice_split is_lf (take budget bytes))
unfolding judged
judged-pieces limit budget bytes = refl

short-long : (limit : ℕ) (piece : List ℕ) (pieces : List (List ℕ)) → limit < length piece → take_while (λ piece. nat_le (length piece) limit) (piece ∷ pieces) ≡ []
short-long limit piece pieces long =
    take_while-cons (λ piece. nat_le (length piece) limit) piece pieces ∙ rw (lt-leb (length piece) limit long) refl

short-more : (limit : ℕ) (piece : List ℕ) (pieces : List (List ℕ)) → length piece ≤ limit → take_while (λ piece. nat_le (length piece) limit) (piece ∷ pieces) ≡ piece ∷ take_while (λ piece. nat_le (length piece) limit) pieces
short-more limit piece pieces short =
    take_while-cons (λ piece. nat_le (length piece) limit) piece pieces ∙ rw (le-leb (length piece) limit short) refl

-- a first piece that is too long ends it all
long-piece : (limit : ℕ) (beyond : Bool) (piece : List ℕ) (pieces : List (List ℕ)) → limit < length piece → judged_pieces limit beyond (piece ∷ pieces) ≡ no_line LineTooLong
long-piece limit beyond piece pieces long =
    ap (judged_by beyond (piece ∷ pieces)) (short-long limit piece pieces long) ∙ rw (lt-ltb 0 (length (piece ∷ pieces)) (omega arith)) refl

ltb-suc : (m n : ℕ) → nat_lt (suc m) (suc n) ≡ nat_lt m n
ltb-suc m n = grind (arith, nat_tests)

with_line-cond : (line : List ℕ) (long beyond : Bool) (short whole all : List (List ℕ)) → cond long (record { lines = line ∷ short; ending = LineTooLong }) (cond beyond (record { lines = line ∷ whole; ending = InputTooLong }) (record { lines = line ∷ all; ending = End })) ≡ with_line line (cond long (record { lines = short; ending = LineTooLong }) (cond beyond (record { lines = whole; ending = InputTooLong }) (record { lines = all; ending = End })))
with_line-cond line true beyond short whole all = refl
with_line-cond line false true short whole all = refl
with_line-cond line false false short whole all = refl

-- a first piece that isn't is a line, if another follows
short-piece : (limit : ℕ) (beyond : Bool) (piece second : List ℕ) (pieces : List (List ℕ)) → length piece ≤ limit → judged_pieces limit beyond (piece ∷ second ∷ pieces) ≡ with_line piece (judged_pieces limit beyond (second ∷ pieces))
short-piece limit beyond piece second pieces short =
    let front = take_while (λ piece. nat_le (length piece) limit) (second ∷ pieces) in
    ap (judged_by beyond (piece ∷ second ∷ pieces)) (short-more limit piece (second ∷ pieces) short)
    ∙ (ap (λ long. cond long (record { lines = piece ∷ front; ending = LineTooLong }) (cond beyond (record { lines = piece ∷ whole_lines (second ∷ pieces); ending = InputTooLong }) (record { lines = piece ∷ all_lines (second ∷ pieces); ending = End }))) (ltb-suc (length front) (length (second ∷ pieces)))
    ∙ with_line-cond piece _ beyond front _ _)

-- a lone piece
lone-piece : (limit : ℕ) (beyond : Bool) (piece : List ℕ) → length piece ≤ limit → judged_pieces limit beyond (piece ∷ []) ≡ cond beyond (no_line InputTooLong) (record { lines = all_lines (piece ∷ []); ending = End })
lone-piece limit beyond piece short =
    ap (judged_by beyond (piece ∷ [])) (short-more limit piece [] short) ∙ refl

-- the first of several pieces
piece-after : (limit : ℕ) (beyond : Bool) (piece : List ℕ) (pieces : List (List ℕ)) → 0 < length pieces → length piece ≤ limit → judged_pieces limit beyond (piece ∷ pieces) ≡ with_line piece (judged_pieces limit beyond pieces)
piece-after limit beyond piece [] some short = absurd (omega arith)
piece-after limit beyond piece (second ∷ pieces) some short = short-piece limit beyond piece second pieces short

-- the pieces of the bytes within the budget, where a LF is among them
pieces-line : (budget : ℕ) (bytes : List ℕ) → position_or_len is_lf bytes < length bytes → position_or_len is_lf bytes < budget → slice_split is_lf (take budget bytes) ≡ before_first is_lf bytes ∷ slice_split is_lf (take (budget - (position_or_len is_lf bytes + 1)) (after_first is_lf bytes))
pieces-line budget bytes lf within =
    let first : position_or_len is_lf (take budget bytes) ≡ position_or_len is_lf bytes = position-within budget bytes within in
    let here : position_or_len is_lf (take budget bytes) < length (take budget bytes) = rw (first, length-take) (omega arith) in
    let whole : budget ≡ position_or_len is_lf bytes + 1 + (budget - (position_or_len is_lf bytes + 1)) = omega arith in
    let behind : after_first is_lf (take budget bytes) ≡ take (budget - (position_or_len is_lf bytes + 1)) (after_first is_lf bytes)
    = ap (λ n. drop (n + 1) (take budget bytes)) first ∙ (ap (λ n. drop (position_or_len is_lf bytes + 1) (take n bytes)) whole ∙ drop-take (position_or_len is_lf bytes + 1) _ bytes) in
    slice_split_first is_lf (take budget bytes) 0 here ∙ rw (line-within budget bytes within, behind) refl

-- the pieces where there's none
pieces-none : (budget : ℕ) (bytes : List ℕ) → min budget (length bytes) ≤ position_or_len is_lf bytes → slice_split is_lf (take budget bytes) ≡ take budget bytes ∷ []
pieces-none budget bytes none =
    let first = prefix_len-take (λ b. not (is_lf b)) budget bytes in
    slice_split_none is_lf (take budget bytes) (λ k d below. fails_before_first is_lf (take budget bytes) k d (omega (arith, first, length-take budget bytes)))

beyond-same : (budget all n : ℕ) → n ≤ budget → n ≤ all → nat_lt budget all ≡ nat_lt (budget - n) (all - n)
beyond-same budget all n within inside = grind (arith, nat_tests)

judged-line : (limit budget : ℕ) (bytes : List ℕ) → position_or_len is_lf bytes < length bytes → position_or_len is_lf bytes < budget → position_or_len is_lf bytes ≤ limit → judged limit budget bytes ≡ with_line (before_first is_lf bytes) (judged limit (budget - (length (before_first is_lf bytes) + 1)) (after_first is_lf bytes))
judged-line limit budget bytes lf within short =
    let n = position_or_len is_lf bytes in
    let is_n : length (before_first is_lf bytes) ≡ n = length-prefix_len (λ b. not (is_lf b)) bytes in
    let behind = after_first is_lf bytes in
    let beyond : nat_lt budget (length bytes) ≡ nat_lt (budget - (n + 1)) (length behind)
    = beyond-same budget (length bytes) (n + 1) (omega arith) (omega arith) ∙ ap (nat_lt (budget - (n + 1))) (sym (length-drop (n + 1) bytes)) in
    let pieces = slice_split is_lf (take (budget - (n + 1)) behind) in
    let some : 0 < length pieces = omega (arith, length-slice_split is_lf (take (budget - (n + 1)) behind)) in
    let rest : judged_pieces limit (nat_lt budget (length bytes)) pieces ≡ judged limit (budget - (length (before_first is_lf bytes) + 1)) behind
    = rw (is_n, judged-pieces limit (budget - (n + 1)) behind) (ap (λ b. judged_pieces limit b pieces) beyond) in
    judged-pieces limit budget bytes
    ∙ (ap (judged_pieces limit (nat_lt budget (length bytes))) (pieces-line budget bytes lf within)
    ∙ (piece-after limit _ (before_first is_lf bytes) pieces some (rw is_n short) ∙ ap (with_line (before_first is_lf bytes)) rest))

-- the first piece
split-first : (bytes : List ℕ) → (pieces : List (List ℕ)) × (slice_split is_lf bytes ≡ before_first is_lf bytes ∷ pieces)
split-first bytes =
    elim (cases_lt (position_or_len is_lf bytes) (length bytes)) [
      | inl lf ↦ (_, slice_split_first is_lf bytes 0 lf)
      | inr past ↦
          ([], slice_split_none is_lf bytes (λ k d below. fails_before_first is_lf bytes k d (omega arith)) ∙ ap (λ piece. piece ∷ []) (sym (take_all _ bytes past)))
    ]

judged-long : (limit budget : ℕ) (bytes : List ℕ) → limit < min budget (position_or_len is_lf bytes) → judged limit budget bytes ≡ no_line LineTooLong
judged-long limit budget bytes long =
    let first = split-first (take budget bytes) in
    judged-pieces limit budget bytes
    ∙ (ap (judged_pieces limit (nat_lt budget (length bytes))) first.1 ∙ long-piece limit _ _ first.0 (rw length-line long))

judged-input : (limit budget : ℕ) (bytes : List ℕ) → min budget (position_or_len is_lf bytes) ≤ limit → budget ≤ position_or_len is_lf bytes → budget < length bytes → judged limit budget bytes ≡ no_line InputTooLong
judged-input limit budget bytes short none beyond =
    let is_n : length (take budget bytes) ≤ limit = rw length-take (omega arith) in
    judged-pieces limit budget bytes
    ∙ rw (pieces-none budget bytes (omega arith), lt-ltb budget (length bytes) beyond) (lone-piece limit true (take budget bytes) is_n)

judged-end : (limit budget : ℕ) → judged limit budget [] ≡ no_line End
judged-end limit budget =
    judged-pieces limit budget [] ∙ rw (take-nil budget, le-ltb budget 0 (omega arith)) (lone-piece limit false [] (omega arith))

judged-last : (limit budget : ℕ) (bytes : List ℕ) → position_or_len is_lf bytes ≡ length bytes → length bytes ≤ budget → length bytes ≤ limit → 0 < length bytes → judged limit budget bytes ≡ with_line bytes (no_line End)
judged-last limit budget bytes none within short some =
    let all-line : judged_pieces limit false (bytes ∷ []) ≡ with_line bytes (no_line End)
    = lone-piece limit false bytes short ∙ rw (ne_eqb (length bytes) 0 (λ empty. omega arith)) refl in
    judged-pieces limit budget bytes ∙ rw (pieces-none budget bytes (omega arith), le-ltb budget (length bytes) within, take_all budget bytes within) all-line

-- the judgement that what comes next leads to
abbrev pub by_next : (limit budget : ℕ) → Next → Judgement
by_next limit budget (Line line rest) = with_line line (judged limit (budget - (length line + 1)) rest)
by_next limit budget (Over ending) = no_line ending

next-none : (limit budget : ℕ) (bytes : List ℕ) → position_or_len is_lf bytes ≡ length bytes → length bytes ≤ budget → length bytes ≤ limit → judged limit budget bytes ≡ by_next limit budget (next limit budget bytes)
next-none limit budget [] none within short = judged-end limit budget ∙ sym (ap (by_next limit budget) (next-end limit budget))
next-none limit budget (x ∷ bytes) none within short =
    let some : 0 < length (x ∷ bytes) = omega arith in
    judged-last limit budget (x ∷ bytes) none within short some
    ∙ (ap (with_line (x ∷ bytes)) (sym (judged-end limit _)) ∙ sym (ap (by_next limit budget) (next-last limit budget (x ∷ bytes) none within short some)))

-- The judgement of an input is what comes next, and then the judgement of the rest.
pub judged-next : (limit budget : ℕ) (bytes : List ℕ) → judged limit budget bytes ≡ by_next limit budget (next limit budget bytes)
judged-next limit budget bytes =
    let n = position_or_len is_lf bytes in
    let all = length bytes in
    let inside = prefix_len-le-length (λ b. not (is_lf b)) bytes in
    elim (cases_lt limit (min budget n)) [
      | inl long ↦ judged-long limit budget bytes long ∙ sym (ap (by_next limit budget) (next-long limit budget bytes long))
      | inr short ↦
          elim (cases_lt n (min budget all)) [
            | inl lf ↦
                let here : n < all = omega arith in
                let within : n < budget = omega arith in
                let fits : n ≤ limit = omega arith in
                judged-line limit budget bytes here within fits ∙ sym (ap (by_next limit budget) (next-line limit budget bytes here within fits))
            | inr past ↦
                elim (cases_lt budget all) [
                  | inl beyond ↦
                      let none : budget ≤ n = omega arith in
                      judged-input limit budget bytes short none beyond ∙ sym (ap (by_next limit budget) (next-input limit budget bytes short none beyond))
                  | inr within ↦ next-none limit budget bytes (omega arith) within (omega arith)
                ]
          ]
    ]
