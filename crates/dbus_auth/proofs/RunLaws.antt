-- What the answers to lines say of the rejections that were counted.
use Rattle.std.proofs.Common.{◌≡◌, ℕ, ◌+◌, ◌<◌, ◌≤◌, Bool, true, false, cond, ltb, List, [], ◌∷◌, refl, sym, ap, ◌∙◌, arith, inl, inr, ◌⊎◌, ◌↔◌}
use Rattle.std.specs.Prelude.{count_by}
use Rattle.std.proofs.lemmas.Bool.{ltb-true, ltb-false, true≢false}
use Rattle.std.proofs.lemmas.List.Sums.{sum_by-cons}
use Rattle.dbus_auth.specs.declared.answer.AuthAnswer.{AuthAnswer}
use Rattle.dbus_auth.specs.declared.answer.AuthAnswer.TheVariants as answer
use Rattle.dbus_auth.specs.declared.answer.AuthEnd.{AuthEnd}
use Rattle.dbus_auth.specs.declared.answer.AuthEnd.TheVariants as ends
use Rattle.dbus_auth.specs.declared.answer.Stage.{Stage}
use Rattle.dbus_auth.specs.declared.answer.Stage.TheVariants as stages
use Rattle.dbus_auth.specs.Table.{State, ended, rejected, row, step, step_accepted, step_data, step_start}
use Rattle.dbus_auth.specs.Runs.{after, answers, answered, is_rejected, Rejects, rejections, start}

-- two choices by one test
both : {A B : Type 0} (P : A → B → Type 0) (b : Bool) (x y : A) (z w : B) → P x z → P y w → P (cond b x y) (cond b z w)
both P true x y z w p q = p
both P false x y z w p q = q

abbrev Moved : Type 0
Moved = AuthAnswer × State

-- how a line is answered where so many were rejected, and what the same stage answers where none was
data Answers (s : State) (now fresh : Moved) : Type 0 where
  rejects : now.0 ≡ answer.Rejected → now.1.rejections ≡ s.rejections + 1 → s.rejections + 1 < 10 → fresh.0 ≡ answer.Rejected → Answers s now fresh
  ends_so : now.0 ≡ answer.Ended ends.Rejections → now.1.rejections ≡ s.rejections → 10 ≤ s.rejections + 1 → fresh.0 ≡ answer.Rejected → Answers s now fresh
  others : is_rejected now.0 ≡ false → now.1.rejections ≡ s.rejections → (now.0 ≡ answer.Ended ends.Rejections → ⊥) → (fresh.0 ≡ answer.Rejected → ⊥) → Answers s now fresh

abbrev fresh_at : Stage → State
fresh_at stage = record { stage = stage; rejections = 0 }

counted : (s : State) (stage : Stage) (b : Bool) → ltb (s.rejections + 1) 10 ≡ b
    → Answers s (cond b (answer.Rejected, record { stage = stages.Start; rejections = s.rejections + 1 }) (ended ends.Rejections s)) (rejected (fresh_at stage))
counted s stage true is = rejects refl refl (ltb-true _ _ is) refl
counted s stage false is = ends_so refl refl (ltb-false _ _ is) refl

a_rejection : (s : State) (stage : Stage) → Answers s (rejected s) (rejected (fresh_at stage))
a_rejection s stage = counted s stage (ltb (s.rejections + 1) 10) refl

-- an answer that is no rejection
another : (s : State) (a : AuthAnswer) (t u : State) → t.rejections ≡ s.rejections → is_rejected a ≡ false → (a ≡ answer.Ended ends.Rejections → ⊥) → Answers s (a, t) (a, u)
another s a t u same isnt no_end = others isnt same no_end (λ e. true≢false (ap is_rejected (sym e) ∙ isnt))

abbrev Row : (State → List ℕ → Moved) → Type 0
Row row_of = (s : State) (stage : Stage) (line : List ℕ) → Answers s (row_of s line) (row_of (fresh_at stage) line)

at_start : Row step_start
at_start s stage line =
    both (Answers s) _ _ _ _ _ (another s answer.Ok _ _ refl refl (λ e. cc))
    (both (Answers s) _ _ _ _ _ (another s answer.Data _ _ refl refl (λ e. cc))
    (both (Answers s) _ _ _ _ _ (a_rejection s stage)
    (both (Answers s) _ _ _ _ _ (another s (answer.Ended ends.EarlyBegin) _ _ refl refl (λ e. cc))
    (another s answer.Error _ _ refl refl (λ e. cc)))))

at_data : Row step_data
at_data s stage line =
    both (Answers s) _ _ _ _ _ (another s answer.Ok _ _ refl refl (λ e. cc))
    (both (Answers s) _ _ _ _ _ (a_rejection s stage)
    (both (Answers s) _ _ _ _ _ (another s (answer.Ended ends.EarlyBegin) _ _ refl refl (λ e. cc))
    (another s answer.Error _ _ refl refl (λ e. cc))))

at_accepted : Row step_accepted
at_accepted s stage line =
    both (Answers s) _ _ _ _ _ (another s answer.Begin _ _ refl refl (λ e. cc))
    (both (Answers s) _ _ _ _ _ (a_rejection s stage)
    (another s answer.Error _ _ refl refl (λ e. cc)))

-- What a stage that is no end answers.
goes_on : (stage : Stage) (s : State) (line : List ℕ) → ((end : AuthEnd) × (stage ≡ stages.Ended end)) ⊎ Answers s (row stage s line) (row stage (fresh_at stage) line)
goes_on stages.Start s line = inr (at_start s stages.Start line)
goes_on stages.Data s line = inr (at_data s stages.Data line)
goes_on stages.Accepted s line = inr (at_accepted s stages.Accepted line)
goes_on stages.Begun s line = inr (another s answer.Error _ _ refl refl (λ e. cc))
goes_on (stages.Ended end) s line = inl (end, refl)

-- ---- runs

-- how a line counts
abbrev Counts : State → Moved → Type 0
Counts s now = (cond (is_rejected now.0) 1 0 + s.rejections ≡ now.1.rejections) × (now.1.rejections < 10)

counts : (s : State) (now fresh : Moved) → s.rejections < 10 → Answers s now fresh → Counts s now
counts s now fresh few (rejects is more still f) = (rw is (omega arith), omega arith)
counts s now fresh few (ends_so is same full f) = (rw is (omega arith), omega arith)
counts s now fresh few (others isnt same no_end f) = (rw isnt (omega arith), omega arith)

line_counts : (s : State) (line : List ℕ) → s.rejections < 10 → Counts s (step s line)
line_counts s line few =
    elim (goes_on s.stage s line) [
      | inl p ↦ rw p.1 (omega arith, few)
      | inr answered_so ↦ counts s _ _ few answered_so
    ]

run_counts : (lines : List (List ℕ)) (s : State) → s.rejections < 10 → (count_by is_rejected (answers s lines) + s.rejections ≡ (after s lines).rejections) × ((after s lines).rejections < 10)
run_counts [] s few = (omega arith, few)
run_counts (line ∷ lines) s few =
    let one = line_counts s line few in
    let others_count = run_counts lines (step s line).1 one.1 in
    let more : count_by is_rejected (answers s (line ∷ lines)) ≡ cond (is_rejected (step s line).0) 1 0 + count_by is_rejected (answers (step s line).1 lines) = sum_by-cons (λ x. cond (is_rejected x) 1 0) (step s line).0 (answers (step s line).1 lines) in
    let last : (after s (line ∷ lines)).rejections ≡ (after (step s line).1 lines).rejections = refl in
    (omega (arith, one.0, others_count.0, more, last), others_count.1)

counted_all : (lines : List (List ℕ)) → rejections lines ≡ (after start lines).rejections
counted_all lines = let all = run_counts lines start (omega arith) in omega (arith, all.0)

pub at_most_nine : (lines : List (List ℕ)) → rejections lines ≤ 9
at_most_nine lines = let all = run_counts lines start (omega arith) in omega (arith, counted_all lines, all.1)

-- ---- the tenth

abbrev EndsSo : State → List ℕ → Type 0
EndsSo s line = (s.stage ≡ stages.Ended ends.Rejections) ⊎ ((s.rejections ≡ 9) × Rejects s.stage line)

ends_there : (s : State) (line : List ℕ) (now fresh : Moved) → s.rejections < 10 → fresh ≡ step (fresh_at s.stage) line → now.0 ≡ answer.Ended ends.Rejections → Answers s now fresh → EndsSo s line
ends_there s line now fresh few f is (rejects rejected_so more still g) = absurd cc
ends_there s line now fresh few f is (ends_so so same full g) = inr (omega arith, rw (← f) g)
ends_there s line now fresh few f is (others isnt same no_end g) = absurd (no_end is)

ends_then : (s : State) (line : List ℕ) (now fresh : Moved) → s.rejections ≡ 9 → fresh.0 ≡ answer.Rejected → Answers s now fresh → now.0 ≡ answer.Ended ends.Rejections
ends_then s line now fresh nine is (rejects rejected_so more still g) = absurd (omega arith)
ends_then s line now fresh nine is (ends_so so same full g) = so
ends_then s line now fresh nine is (others isnt same no_end g) = absurd (g is)

end_is : (end : AuthEnd) → answer.Ended end ≡ answer.Ended ends.Rejections → end ≡ ends.Rejections
end_is end e = cc

stage_end : (end other : AuthEnd) → stages.Ended end ≡ stages.Ended other → end ≡ other
stage_end end other e = cc

pub ends_exactly : (s : State) (line : List ℕ) → s.rejections < 10 → ((step s line).0 ≡ answer.Ended ends.Rejections) ↔ EndsSo s line
ends_exactly s line few =
    elim (goes_on s.stage s line) [
      | inl p ↦ (
        (λ (is : (step s line).0 ≡ answer.Ended ends.Rejections). inl (p.1 ∙ ap stages.Ended (end_is p.0 (rw p.1 at is)))),
        (λ (so : EndsSo s line). elim so [
          | inl stage_is ↦ rw stage_is refl
          | inr rejects_it ↦ absurd (let r : answer.Ended p.0 ≡ answer.Rejected = rw p.1 at rejects_it.1 in cc)
        ]),
      )
      | inr answered_so ↦ (
        (λ (is : (step s line).0 ≡ answer.Ended ends.Rejections). ends_there s line _ _ few refl is answered_so),
        (λ (so : EndsSo s line). elim so [
          | inl stage_is ↦ rw stage_is refl
          | inr rejects_it ↦ ends_then s line _ _ rejects_it.0 rejects_it.1 answered_so
        ]),
      )
    ]

pub tenth_ends : (lines : List (List ℕ)) (line : List ℕ) → (answered lines line ≡ answer.Ended ends.Rejections)
    ↔ (((after start lines).stage ≡ stages.Ended ends.Rejections) ⊎ ((rejections lines ≡ 9) × Rejects (after start lines).stage line))
tenth_ends lines line =
    let few = (run_counts lines start (omega arith)).1 in
    rw (counted_all lines) (ends_exactly (after start lines) line few)
