-- What each decision of a reader says of the numbers of its bytes.
use Rattle.std.proofs.Common.{◌≡◌, ℕ, ◌<◌, ◌≤◌, not, List, ◌++◌, length, min, Option, None, Some, refl, sym, ◌∙◌, ap, inl, inr, ◌⊎◌, arith}
use Rattle.std.specs.List.{position_or_len, before_first, after_first}
use Rattle.std.proofs.lemmas.Bool.Decides.{nat_tests}
use Rattle.std.proofs.lemmas.List.Sums.{prefix_len-le-length}
use Rattle.std.proofs.lemmas.List.Folds.{length-prefix_len}
use Rattle.std.proofs.lemmas.List.{length-append}
use Rattle.fw_input.specs.declared.advance.Advance.{Advance}
use Rattle.fw_input.specs.declared.advance.Advance.TheVariants.{Line, LineTooLong, InputTooLong}
use Rattle.fw_input.specs.Lines.{is_lf, next}
use Rattle.fw_input.specs.Lines as lines
use Rattle.fw_input.specs.Reading.{Reader, decided}
use Rattle.fw_input.specs.Refilling.{choice, Decides, HasLine}
use Rattle.fw_input.specs.Reading.{Steps}
use Rattle.fw_input.proofs.LineLemmas.{decision-choice}
use Rattle.fw_input.proofs.NextLemmas as nexts

choice-none : (limit budget first all : ℕ) → first ≤ all → choice limit budget first all ≡ None → (first ≡ all) × (all ≤ limit) × (all ≤ budget)
choice-none limit budget first all below none = grind (arith, nat_tests)

choice-line : (limit budget first all : ℕ) → first ≤ all → choice limit budget first all ≡ Some Line → (first < all) × (first < budget) × (first ≤ limit)
choice-line limit budget first all below line = grind (arith, nat_tests)

choice-long : (limit budget first all : ℕ) → first ≤ all → choice limit budget first all ≡ Some LineTooLong → limit < min budget first
choice-long limit budget first all below long = grind (arith, nat_tests)

choice-input : (limit budget first all : ℕ) → first ≤ all → choice limit budget first all ≡ Some InputTooLong → (min budget first ≤ limit) × (budget < all) × (budget ≤ first)
choice-input limit budget first all below long = grind (arith, nat_tests)

first-within : (r : Reader) → position_or_len is_lf r.ahead ≤ length r.ahead
first-within r = prefix_len-le-length (λ b. not (is_lf b)) r.ahead

chosen : (r : Reader) (answer : Option Advance) → decided r ≡ answer → choice r.line_limit r.budget (position_or_len is_lf r.ahead) (length r.ahead) ≡ answer
chosen r answer is = sym (decision-choice r _ _ refl refl) ∙ is

-- Nothing is decided: all the bytes ahead are a part of one line, within both limits.
pub undecided : (r : Reader) → decided r ≡ None → (position_or_len is_lf r.ahead ≡ length r.ahead) × (length r.ahead ≤ r.line_limit) × (length r.ahead ≤ r.budget)
undecided r none = choice-none _ _ _ _ (first-within r) (chosen r None none)

-- A line is decided.
line-numbers : (r : Reader) → decided r ≡ Some Line → (position_or_len is_lf r.ahead < length r.ahead) × (position_or_len is_lf r.ahead < r.budget) × (position_or_len is_lf r.ahead ≤ r.line_limit)
line-numbers r line = choice-line _ _ _ _ (first-within r) (chosen r (Some Line) line)

pub has_line : (r : Reader) → decided r ≡ Some Line → HasLine r
has_line r line = let numbers = line-numbers r line in record { lf = numbers.0; within = numbers.1 }

pub line-short : (r : Reader) → decided r ≡ Some Line → length (before_first is_lf r.ahead) ≤ r.line_limit
line-short r line = rw length-prefix_len (line-numbers r line).2

pub decided-line : (r : Reader) (more : List ℕ) → decided r ≡ Some Line → next r.line_limit r.budget (r.ahead ++ more) ≡ lines.Line (before_first is_lf r.ahead) (after_first is_lf r.ahead ++ more)
decided-line r more line =
    let numbers = line-numbers r line in
    nexts.next-line-append r.line_limit r.budget r.ahead more numbers.0 numbers.1 numbers.2

pub decided-long : (r : Reader) (more : List ℕ) → decided r ≡ Some LineTooLong → next r.line_limit r.budget (r.ahead ++ more) ≡ lines.Over lines.LineTooLong
decided-long r more long =
    let past : r.line_limit < min r.budget (position_or_len is_lf r.ahead) = choice-long _ _ _ _ (first-within r) (chosen r (Some LineTooLong) long) in
    nexts.next-long _ _ _ (omega (arith, nexts.position-grows r.ahead more))

pub decided-input : (r : Reader) (more : List ℕ) → decided r ≡ Some InputTooLong → next r.line_limit r.budget (r.ahead ++ more) ≡ lines.Over lines.InputTooLong
decided-input r more long =
    let numbers : (min r.budget (position_or_len is_lf r.ahead) ≤ r.line_limit) × (r.budget < length r.ahead) × (r.budget ≤ position_or_len is_lf r.ahead)
    = choice-input _ _ _ _ (first-within r) (chosen r (Some InputTooLong) long) in
    nexts.next-input _ _ _ (omega (arith, nexts.position-grows r.ahead more)) (omega (arith, nexts.position-grows r.ahead more)) (omega (arith, length-append r.ahead more))

not-chosen : (limit budget first all : ℕ) (answer : Advance) → choice limit budget first all ≡ Some answer → (answer ≡ Line → ⊥) → (answer ≡ LineTooLong) ⊎ (answer ≡ InputTooLong)
not-chosen limit budget first all answer is other = grind (arith, nat_tests)

ending-steps : (r : Reader) (answer : Advance) → decided r ≡ Some answer → (answer ≡ LineTooLong) ⊎ (answer ≡ InputTooLong) → Decides answer × ((more : List ℕ) → Steps answer r r (r.ahead ++ more) (r.ahead ++ more))
ending-steps r answer is (inl long) =
    let step : (more : List ℕ) → Steps LineTooLong r r (r.ahead ++ more) (r.ahead ++ more)
    = λ more. record { next = decided-long r more (is ∙ ap Some long); bytes = refl; budget = refl } in
    rw long (tt, step)
ending-steps r answer is (inr long) =
    let step : (more : List ℕ) → Steps InputTooLong r r (r.ahead ++ more) (r.ahead ++ more)
    = λ more. record { next = decided-input r more (is ∙ ap Some long); bytes = refl; budget = refl } in
    rw long (tt, step)

-- An ending is decided.
pub decided-ending : (r : Reader) (answer : Advance) → decided r ≡ Some answer → (answer ≡ Line → ⊥) → Decides answer × ((more : List ℕ) → Steps answer r r (r.ahead ++ more) (r.ahead ++ more))
decided-ending r answer is other =
    ending-steps r answer is (not-chosen r.line_limit r.budget (position_or_len is_lf r.ahead) (length r.ahead) answer (chosen r (Some answer) is) other)
