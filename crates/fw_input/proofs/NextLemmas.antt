-- What comes next of some bytes, by where their first LF stands.
use Rattle.std.proofs.Common.{◌≡◌, ℕ, zero, suc, ◌<◌, ◌≤◌, not, List, [], ◌∷◌, ◌++◌, length, take, min, refl, ◌∙◌, ap, arith}
use Rattle.std.specs.List.{position_or_len, before_first, after_first}
use Rattle.std.proofs.lemmas.Bool.{lt-ltb, le-ltb}
use Rattle.std.proofs.lemmas.Bool.Decides.{nat_tests}
use Rattle.std.proofs.lemmas.List.{length-take, length-append, take-append-le, drop-append-le}
use Rattle.std.proofs.lemmas.List.Folds.{length-prefix_len, prefix_len-append}
use Rattle.std.proofs.lemmas.List.Sums.{prefix_len-le-length}
use Rattle.std.proofs.Math.Seq.{take-nil}
use Rattle.fw_input.specs.Lines.{is_lf, next, Line, Over, End, LineTooLong, InputTooLong}
use Rattle.fw_input.proofs.LineLemmas.{prefix_len-take, length-line}

take-take : (n budget : ℕ) (bytes : List ℕ) → n ≤ budget → take n (take budget bytes) ≡ take n bytes
take-take zero budget bytes within = refl
take-take (suc n) zero bytes within = absurd (omega arith)
take-take (suc n) (suc budget) [] within = refl
take-take (suc n) (suc budget) (x ∷ bytes) within = ap (λ xs. x ∷ xs) (take-take n budget bytes (omega arith))

pub position-within : (budget : ℕ) (bytes : List ℕ) → position_or_len is_lf bytes < budget → position_or_len is_lf (take budget bytes) ≡ position_or_len is_lf bytes
position-within budget bytes within = prefix_len-take (λ b. not (is_lf b)) budget bytes ∙ omega arith

-- the first line of the bytes, whole
pub line-within : (budget : ℕ) (bytes : List ℕ) → position_or_len is_lf bytes < budget → before_first is_lf (take budget bytes) ≡ before_first is_lf bytes
line-within budget bytes within = rw (position-within budget bytes within) (take-take _ budget bytes (omega arith))

pub next-long : (limit budget : ℕ) (bytes : List ℕ) → limit < min budget (position_or_len is_lf bytes) → next limit budget bytes ≡ Over LineTooLong
unfolding next
next-long limit budget bytes long = rw (length-line, lt-ltb _ _ long) refl

pub next-line : (limit budget : ℕ) (bytes : List ℕ) → position_or_len is_lf bytes < length bytes → position_or_len is_lf bytes < budget → position_or_len is_lf bytes ≤ limit → next limit budget bytes ≡ Line (before_first is_lf bytes) (after_first is_lf bytes)
unfolding next
next-line limit budget bytes lf within short =
    let is_first = length-prefix_len (λ b. not (is_lf b)) bytes in
    let here : position_or_len is_lf bytes < min budget (length bytes) = omega arith in
    rw (line-within budget bytes within, is_first, length-take, le-ltb _ _ short, lt-ltb _ _ here) refl

pub next-input : (limit budget : ℕ) (bytes : List ℕ) → min budget (position_or_len is_lf bytes) ≤ limit → budget ≤ position_or_len is_lf bytes → budget < length bytes → next limit budget bytes ≡ Over InputTooLong
unfolding next
next-input limit budget bytes short none beyond =
    let here : min budget (length bytes) ≤ min budget (position_or_len is_lf bytes) = omega arith in
    rw (length-line, length-take, le-ltb _ _ short, le-ltb _ _ here, lt-ltb _ _ beyond) refl

pub next-last : (limit budget : ℕ) (bytes : List ℕ) → position_or_len is_lf bytes ≡ length bytes → length bytes ≤ budget → length bytes ≤ limit → 0 < length bytes → next limit budget bytes ≡ Line bytes []
unfolding next
next-last limit budget bytes none within short some =
    let fits : min budget (length bytes) ≤ limit = omega arith in
    let all : min budget (length bytes) ≤ min budget (length bytes) = omega arith in
    rw (length-line, none, length-take, le-ltb _ _ fits, le-ltb _ _ all, le-ltb _ _ within) (grind (arith, nat_tests))

pub next-end : (limit budget : ℕ) → next limit budget [] ≡ Over End
unfolding next
next-end limit budget = rw (take-nil, le-ltb limit 0 (omega arith), le-ltb budget 0 (omega arith)) refl

-- a LF in the front of the bytes is the first LF of them all
pub position-append : (front more : List ℕ) → position_or_len is_lf front < length front → position_or_len is_lf (front ++ more) ≡ position_or_len is_lf front
position-append front more lf = grind (arith, nat_tests, prefix_len-append (λ b. not (is_lf b)) front more)

pub position-grows : (front more : List ℕ) → position_or_len is_lf front ≤ position_or_len is_lf (front ++ more)
position-grows front more = grind (arith, nat_tests, prefix_len-append (λ b. not (is_lf b)) front more, prefix_len-le-length (λ b. not (is_lf b)) front)

pub next-line-append : (limit budget : ℕ) (front more : List ℕ) → position_or_len is_lf front < length front → position_or_len is_lf front < budget → position_or_len is_lf front ≤ limit → next limit budget (front ++ more) ≡ Line (before_first is_lf front) (after_first is_lf front ++ more)
next-line-append limit budget front more lf within short =
    let same = position-append front more lf in
    let line : before_first is_lf (front ++ more) ≡ before_first is_lf front = rw same (take-append-le _ front more (omega arith)) in
    let rest : after_first is_lf (front ++ more) ≡ after_first is_lf front ++ more = rw same (drop-append-le _ front more (omega arith)) in
    let here = next-line limit budget (front ++ more) (rw same (omega (arith, length-append front more))) (rw same within) (rw same short) in
    rw (line, rest) at here

-- a line comes only within the input limit
pub next-spends : (limit budget : ℕ) (bytes line rest : List ℕ) → next limit budget bytes ≡ Line line rest → 0 < budget
next-spends limit zero [] line rest is = absurd (cc (next-end limit 0))
next-spends limit zero (byte ∷ bytes) line rest is =
    absurd (cc (next-input limit 0 (byte ∷ bytes) (omega arith) (omega arith) (omega arith)))
next-spends limit (suc budget) bytes line rest is = omega arith
