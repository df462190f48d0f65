-- What an advance does, from what its parts do; and what that says of the judgements.
use Rattle.std.proofs.Common.{◌≡◌, ℕ, ◌+◌, ◌-◌, ◌<◌, ◌≤◌, List, [], ◌++◌, length, Option, None, Some, IfSome, IsSome, append-nil, refl, sym, ◌∙◌, ap, arith}
use Rattle.fw_input.specs.declared.advance.Advance.{Advance}
use Rattle.fw_input.specs.declared.advance.Advance.TheVariants as answer
use Rattle.fw_input.specs.Lines.{Ending, Judgement, judged, next, no_line, with_line}
use Rattle.fw_input.specs.Lines as lines
use Rattle.fw_input.specs.Reading.{Reader, Advances, Ended, Judges, Steps, decided, outlook}
use Rattle.fw_input.specs.Refilling.{LastStep, bytes_to_come}
use Rattle.fw_input.proofs.DecisionLemmas.{undecided}
use Rattle.fw_input.proofs.JudgedLemmas.{by_next, judged-next}
use Rattle.fw_input.proofs.NextLemmas as nexts

-- the decision doesn't hang on the line found last
decision-line : (r : Reader) → decided (record r { line = [] }) ≡ decided r
unfolding decided
decision-line r = refl

pub still_decided : (old mid : Reader) → mid ≡ record old { line = [] } → IsSome (decided old) → IsSome (decided mid)
still_decided old mid forgot decided = rw (forgot, decision-line old) decided

ended-from : (ending : Ending) (mid old new : Reader) (before bytes after : List ℕ) → mid.budget ≡ old.budget → mid.line_limit ≡ old.line_limit → bytes ≡ before → Ended ending mid new bytes after → Ended ending old new before after
ended-from ending mid old new before bytes after budget limit same ended = record {
  next = ap (λ l. next l old.budget before) (sym limit) ∙ (ap (λ b. next mid.line_limit b before) (sym budget) ∙ (ap (next mid.line_limit mid.budget) (sym same) ∙ ended.next));
  bytes = ended.bytes ∙ same;
  budget = ended.budget ∙ budget;
}

-- a step of one reader is one of another with the same bytes to come and the same limits
steps-from : (a : Advance) (mid old new : Reader) (before bytes after : List ℕ) → mid.budget ≡ old.budget → mid.line_limit ≡ old.line_limit → bytes ≡ before → Steps a mid new bytes after → Steps a old new before after
steps-from answer.Line mid old new before bytes after budget limit same step =
    (ap (λ l. next l old.budget before) (sym limit) ∙ (ap (λ b. next mid.line_limit b before) (sym budget) ∙ (ap (next mid.line_limit mid.budget) (sym same) ∙ step.0)), step.1 ∙ ap (λ b. b - (length new.line + 1)) budget)
steps-from answer.End mid old new before bytes after budget limit same step = ended-from lines.End mid old new before bytes after budget limit same step
steps-from answer.LineTooLong mid old new before bytes after budget limit same step = ended-from lines.LineTooLong mid old new before bytes after budget limit same step
steps-from answer.InputTooLong mid old new before bytes after budget limit same step = ended-from lines.InputTooLong mid old new before bytes after budget limit same step
steps-from answer.Failed mid old new before bytes after budget limit same step = (step.0 ∙ same, step.1 ∙ budget)
steps-from answer.Memory mid old new before bytes after budget limit same step = (step.0 ∙ same, step.1 ∙ budget)

-- the bytes to come stay while the source is read, and then the reader makes a step over them
pub advances-from : (a : Advance) (mid old new : Reader) (left after : Option (List ℕ)) → bytes_to_come mid.ahead after ≡ bytes_to_come old.ahead left → mid.budget ≡ old.budget → mid.line_limit ≡ old.line_limit → ((rest : List ℕ) → after ≡ Some rest → Steps a mid new (mid.ahead ++ rest) (new.ahead ++ rest)) → Advances a old new left after
advances-from a mid old new (Some left) (Some after) bytes budget limit step =
    let same : mid.ahead ++ after ≡ old.ahead ++ left = cc in
    steps-from a mid old new _ _ _ budget limit same (step after refl)
advances-from a mid old new (Some left) None bytes budget limit step = cc
advances-from a mid old new None (Some after) bytes budget limit step = cc
advances-from a mid old new None None bytes budget limit step = tt

-- the last step is one over the bytes ahead alone
pub last-step : (a : Advance) (old new : Reader) → decided old ≡ None → LastStep a old new → Steps a old new old.ahead new.ahead
last-step answer.Line old new none last =
    let whole = undecided old none in
    let line : next old.line_limit old.budget old.ahead ≡ lines.Line old.ahead [] = nexts.next-last _ _ _ whole.0 whole.2 whole.1 last.4 in
    (rw (last.0, last.1) line, last.2)
last-step answer.End old new none last = record {
  next = rw last.1 (nexts.next-end _ _);
  bytes = ap (λ r. r.ahead) last.0;
  budget = ap (λ r. r.budget) last.0;
}
last-step answer.LineTooLong old new none last = absurd last
last-step answer.InputTooLong old new none last = absurd last
last-step answer.Failed old new none last = absurd last
last-step answer.Memory old new none last = absurd last

pub last-step-over : (a : Advance) (old new : Reader) (left : Option (List ℕ)) → (decided old ≡ None) × IfSome left (λ bytes. bytes ≡ []) → LastStep a old new → (rest : List ℕ) → left ≡ Some rest → Steps a old new (old.ahead ++ rest) (new.ahead ++ rest)
last-step-over a old new left ends last rest is =
    let none : rest ≡ [] = rw is at ends.1 in
    rw (none, append-nil old.ahead, append-nil new.ahead) (last-step a old new ends.0 last)

pub last-short : (a : Advance) (old new : Reader) → decided old ≡ None → LastStep a old new → a ≡ answer.Line → length new.line ≤ new.line_limit
last-short answer.Line old new none last line = rw (last.1, last.3) (undecided old none).1
last-short answer.End old new none last line = cc
last-short answer.LineTooLong old new none last line = cc
last-short answer.InputTooLong old new none last line = cc
last-short answer.Failed old new none last line = cc
last-short answer.Memory old new none last line = cc

pub last-limit : (a : Advance) (old new : Reader) → LastStep a old new → new.line_limit ≡ old.line_limit
last-limit answer.Line old new last = last.3
last-limit answer.End old new last = ap (λ r. r.line_limit) last.0
last-limit answer.LineTooLong old new last = absurd last
last-limit answer.InputTooLong old new last = absurd last
last-limit answer.Failed old new last = absurd last
last-limit answer.Memory old new last = absurd last

-- nothing was spent, so all is judged as before
same-judged : (old new : Reader) (before after : List ℕ) → new.line_limit ≡ old.line_limit → new.budget ≡ old.budget → after ≡ before → Some (judged new.line_limit new.budget after) ≡ Some (judged old.line_limit old.budget before)
same-judged old new before after limit budget same = rw (limit, budget, same) refl

ended-judged : (ending : Ending) (old new : Reader) (before after : List ℕ) → new.line_limit ≡ old.line_limit → Ended ending old new before after → (Some (judged old.line_limit old.budget before) ≡ Some (no_line ending)) × (Some (judged new.line_limit new.budget after) ≡ Some (judged old.line_limit old.budget before))
ended-judged ending old new before after limit ended = (
  ap Some (judged-next old.line_limit old.budget before ∙ ap (by_next old.line_limit old.budget) ended.next),
  same-judged old new before after limit ended.budget ended.bytes,
)

-- what a step says of the judgements
pub judges-from : (a : Advance) (old new : Reader) (left after : Option (List ℕ)) → new.line_limit ≡ old.line_limit → Advances a old new left after → Judges a new.line (outlook old left) (outlook new after)
judges-from answer.Line old new (Some left) (Some after) limit step =
    let rest : by_next old.line_limit old.budget (lines.Line new.line (new.ahead ++ after)) ≡ with_line new.line (judged new.line_limit new.budget (new.ahead ++ after))
    = rw (limit, step.1) refl in
    ap Some (judged-next _ _ (old.ahead ++ left) ∙ (ap (by_next old.line_limit old.budget) step.0 ∙ rest))
judges-from answer.End old new (Some left) (Some after) limit step = ended-judged lines.End old new _ _ limit step
judges-from answer.LineTooLong old new (Some left) (Some after) limit step = ended-judged lines.LineTooLong old new _ _ limit step
judges-from answer.InputTooLong old new (Some left) (Some after) limit step = ended-judged lines.InputTooLong old new _ _ limit step
judges-from answer.Failed old new (Some left) (Some after) limit step = same-judged old new _ _ limit step.1 step.0
judges-from answer.Memory old new (Some left) (Some after) limit step = same-judged old new _ _ limit step.1 step.0
judges-from answer.Line old new None None limit step = refl
judges-from answer.End old new None None limit step = (refl, refl)
judges-from answer.LineTooLong old new None None limit step = (refl, refl)
judges-from answer.InputTooLong old new None None limit step = (refl, refl)
judges-from answer.Failed old new None None limit step = refl
judges-from answer.Memory old new None None limit step = refl
judges-from a old new (Some left) None limit step = absurd step
judges-from a old new None (Some after) limit step = absurd step

-- a line takes from the budget
pub spends : (a : Advance) (old new : Reader) (before after : List ℕ) → Steps a old new before after → a ≡ answer.Line → new.budget < old.budget
spends answer.Line old new before after step is = omega (arith, step.1, nexts.next-spends _ _ before new.line after step.0)
spends answer.End old new before after step is = absurd (cc)
spends answer.LineTooLong old new before after step is = absurd (cc)
spends answer.InputTooLong old new before after step is = absurd (cc)
spends answer.Failed old new before after step is = absurd (cc)
spends answer.Memory old new before after step is = absurd (cc)
