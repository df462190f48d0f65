-- The history of the turn stands at the opening, and every kind of step keeps it.
use Rattle.std.proofs.Common.{◌≡◌, ℕ, zero, suc, ◌≢◌, true, List, [], ◌∷◌, ◌++◌, sym, refl, ap, ◌∙◌, subst, inr, arith, Some, None, ◌/◌, ◌%◌, ◌-◌, ◌+◌, inl}
use Rattle.std.proofs.lemmas.Option.{none-some, same_Some}
use mathlib.Core.Option.{some, some-injective, some-ne-none}
use lib.ListN.{get_elem?}
use Rattle.turn_core.specs.Knowledge.{first_view}
use Rattle.turn_core.specs.History.{Moment, History, Fits}
use Rattle.turn_core.specs.Steps.{IsEventOrNone, take, commit, opening_moment, Step, loads, takes, fails, hands_out, hands_back, commits, leaves, goes_out, comes_home, splits, joins}
use Rattle.turn_core.specs.declared.view.View.{View}
use Rattle.turn_core.proofs.Standing.{holder_odd}
use Rattle.turn_core.proofs.SplitAndJoin.{split_keeps, join_keeps}
use Rattle.turn_core.proofs.KindsKeep.{load_keeps, take_keeps, commit_keeps, leave_keeps, slot_out_keeps, slot_in_keeps}

module _ {S B E : Type 0} (base_of : S → B) (entries_of : S → List E) (session : E → ℕ) (base : B) where
  abbrev Stands : Moment S B E → Type 0
  Stands = History base_of entries_of session base

  only_one : (P : View B E → Type 0) (v : View B E) → P v → (i : ℕ) (u : View B E) → get_elem? (v ∷ []) i ≡ some u → P u
  only_one P v p zero u e = subst P (some-injective v u e) p
  only_one P v p (suc i) u e = absurd (some-ne-none u (sym e))

  no_two : (v : View B E) (i j : ℕ) (u w : View B E) → i ≢ j → get_elem? (v ∷ []) i ≡ some u → get_elem? (v ∷ []) j ≡ some w → ⊥
  no_two v zero zero u w n e d = n refl
  no_two v (suc i) j u w n e d = some-ne-none u (sym e)
  no_two v zero (suc j) u w n e d = some-ne-none w (sym d)

  -- the history at the start
  pub opening_stands : Stands (opening_moment base_of entries_of session base)
  opening_stands = record {
    history = [];
    even = λ e. absurd (omega arith);
    odd = λ e. (refl, refl);
    vacant = only_one (λ u. u.vacant ≡ true → (u.knows.holds ≡ true) × (some None ≡ some None)) (first_view base) (λ e. (refl, refl));
    each = only_one (Fits session base []) (first_view base) record {
      lives = inr (refl, omega arith);
      front = ([], refl);
      holder = λ e. refl;
      ascending = tt;
      within = λ place h. absurd h;
      sessions = λ place entry e. absurd (none-some entry e);
      found = omega arith;
      found_before = omega arith;
      shorter = ([], refl);
    };
    apart = λ i j v u n e d. absurd (no_two (first_view base) i j v u n e d);
    opened = λ place entry e. absurd (none-some entry e);
    covered = λ place h. absurd (omega arith);
    parts = refl;
  }

  -- every step keeps the history
  pub step_keeps : (m n : Moment S B E) → Stands m → Step base_of entries_of session base m n → Stands n
  step_keeps m n h (loads i v own e) = subst Stands (sym e) (load_keeps base_of entries_of session base m h i v own.0 own.1)
  step_keeps m n h (takes i v value own free even there e) = let all = h.even even in
      let same : all.2.0 ≡ value = same_Some all.2.0 value (some-injective (Some all.2.0) (Some value) (sym all.2.1 ∙ there)) in
      subst Stands (sym e) (subst (λ journal. Stands (take m i v journal)) (sym all.2.3 ∙ ap entries_of same) (take_keeps base_of entries_of session base m h i v own.0 own.1 free even))
  step_keeps m n h (fails i v own e) = subst Stands (sym e) (load_keeps base_of entries_of session base m h i v own.0 own.1)
  step_keeps m n h (hands_out i v own full e) = subst Stands (sym e) h
  step_keeps m n h (hands_back i v own full e) = subst Stands (sym e) h
  step_keeps m n h (commits i v value own full same_base adds e) = let is = holder_odd base_of entries_of session base m h i v own.0 full.0 in
      let journal : entries_of value ≡ h.history ++ adds.0 ∷ [] = adds.1 ∙ ap (λ l. l ++ adds.0 ∷ []) is.2 in
      subst Stands (sym e) (subst (λ l. Stands (commit m i v value l)) (sym journal) (commit_keeps base_of entries_of session base m h i v value adds.0 own.0 own.1 full.0 full.1 same_base journal adds.2))
  step_keeps m n h (leaves i v value own full same_base same e) = subst Stands (sym e) (leave_keeps base_of entries_of session base m h i v value own.0 own.1 full.0 full.1 same_base same)
  step_keeps m n h (goes_out i v own vacant e) = subst Stands (sym e) (slot_out_keeps base_of entries_of session base m h i v own.0 own.1 vacant)
  step_keeps m n h (comes_home i v own holds e) = subst Stands (sym e) (slot_in_keeps base_of entries_of session base m h i v own.0 own.1 holds)
  step_keeps m n h (splits i v own free halves e) = subst Stands (sym e) (split_keeps base_of entries_of session base m h i v own.0 own.1 free halves)
  step_keeps m n h (joins i j v other own own' apart free free' full e) = subst Stands (sym e) (join_keeps base_of entries_of session base m h i v j other own.0 own'.0 apart own.1 free free' full)

  -- a commit is the one step that adds an entry
  pub step_events : (m n : Moment S B E) → Stands m → Step base_of entries_of session base m n → IsEventOrNone m n
  step_events m n h (loads i v own e) = inl (ap (λ x. x.word / 2) e)
  step_events m n h (takes i v value own free even there e) = let w : n.word ≡ m.word + 1 = ap (λ x. x.word) e in inl (omega arith)
  step_events m n h (fails i v own e) = inl (ap (λ x. x.word / 2) e)
  step_events m n h (hands_out i v own full e) = inl (ap (λ x. x.word / 2) e)
  step_events m n h (hands_back i v own full e) = inl (ap (λ x. x.word / 2) e)
  step_events m n h (commits i v value own full same_base adds e) = inr ((holder_odd base_of entries_of session base m h i v own.0 full.0).3, ap (λ x. x.word) e)
  step_events m n h (leaves i v value own full same_base same e) = let odd : m.word % 2 ≡ 1 = (holder_odd base_of entries_of session base m h i v own.0 full.0).3 in let w : n.word ≡ m.word - 1 = ap (λ x. x.word) e in inl (omega arith)
  step_events m n h (goes_out i v own vacant e) = inl (ap (λ x. x.word / 2) e)
  step_events m n h (comes_home i v own holds e) = inl (ap (λ x. x.word / 2) e)
  step_events m n h (splits i v own free halves e) = inl (ap (λ x. x.word / 2) e)
  step_events m n h (joins i j v other own own' apart free free' full e) = inl (ap (λ x. x.word / 2) e)
