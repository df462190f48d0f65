-- One lemma for each kind of step: it keeps the history of the turn.
use Rattle.std.proofs.Common.{◌≡◌, ℕ, ◌+◌, ◌-◌, ◌*◌, ◌%◌, ◌<◌, ◌≤◌, ◌≢◌, ◌⊎◌, Bool, true, false, List, [], ◌∷◌, ◌++◌, length, sym, refl, ap, ◌∙◌, subst, inl, inr, ⊎_elim, arith, Some, None, slice_get, length-append, true≢false}
use Rattle.std.specs.Prelude as std
use Rattle.std.proofs.lemmas.Option.{slice_get_within}
use native.Mathlib.Decide.{ℕ_discrete}
use mathlib.Core.Logic.{dite}
use mathlib.Core.Option.{none, some}
use lib.ListN.{get_elem?}
use Rattle.atomic_table.proofs.Lists.{set_here, set_else}
use Rattle.turn_core.specs.Places.{Has, Apart}
use Rattle.turn_core.specs.Knowledge.{knowing, looked, took, committed, left}
use Rattle.turn_core.specs.History.{Moment, History, Fits}
use Rattle.turn_core.specs.Steps.{load, take, commit, leave, slot_out, slot_in}
use Rattle.turn_core.specs.declared.view.View.{View}
use Rattle.turn_core.proofs.Places.{get_snoc, front_length, front_refl, front_trans, has_snoc, snoc_old, snoc_new, ascending_snoc}
use Rattle.turn_core.proofs.Lists.{within, total_set, one_of, each_set, pairs_set}
use Rattle.turn_core.proofs.Standing.{holding, parted, holding_yes, holding_no, one_there, half_is, holder_odd, no_other, based, quiet, fits_looked}

not_true : (b : Bool) → (b ≡ true → ⊥) → b ≡ false
not_true true n = absurd (n refl)
not_true false n = refl

module _ {S B E : Type 0} (base_of : S → B) (entries_of : S → List E) (session : E → ℕ) (base : B) where
  abbrev Stands : Moment S B E → Type 0
  Stands = History base_of entries_of session base

  -- load, and failed take
  pub load_keeps : (m : Moment S B E) (h : Stands m) (i : ℕ) (v : View B E) → get_elem? m.views i ≡ some v → 0 < v.knows.parts → Stands (load m i v)
  load_keeps m h i v g some-part = let w = knowing v (looked v.knows m.word) in let sum = total_set holding m.views i v w g in
      quiet base_of entries_of session base m h i v w m.word m.slot g refl refl (fits_looked base_of entries_of session base h.history v m.word (h.each i v g) some-part (omega (arith, half_is base_of entries_of session base m h)))
      (λ e. let t = h.even e in (t.0, omega (arith, t.1, sum), t.2)) (λ e. let t = h.odd e in (t.0, omega (arith, t.1, sum))) (λ j u n d. h.vacant j u d) (h.vacant i v g)

  -- take
  pub take_keeps : (m : Moment S B E) (h : Stands m) (i : ℕ) (v : View B E) → get_elem? m.views i ≡ some v → 0 < v.knows.parts → v.knows.holds ≡ false → m.word % 2 ≡ 0 → Stands (take m i v h.history)
  take_keeps m h i v g some-part free even = let w = knowing v (took v.knows m.word h.history) in let sum = total_set holding m.views i v w g in let t = h.even even in let f = h.each i v g in
      let nobody : (j : ℕ) (u : View B E) → get_elem? m.views j ≡ some u → u.vacant ≡ true → ⊥ = λ j u d e. let one = one_of holding m.views j u d in let yes = holding_yes u (h.vacant j u d e).0 in omega (arith, one, yes, t.1) in
      quiet base_of entries_of session base m h i v w (m.word + 1) none g refl refl
      record {
        lives = inr (based base_of entries_of session base h.history v f some-part, some-part);
        front = front_refl h.history;
        holder = λ _. refl;
        ascending = f.ascending;
        within = λ place has. let near = f.within place has in let long = front_length v.knows.seen h.history f.front in omega arith;
        sessions = f.sessions;
        found = omega (arith, half_is base_of entries_of session base m h);
        found_before = f.found;
        shorter = front_trans v.shorter v.knows.seen h.history f.shorter f.front;
      }
      (λ e. absurd (omega arith)) (λ e. let a = t.0 in (omega (arith, a), omega (arith, t.1, sum, holding_no v free))) (λ j u n d e. absurd (nobody j u d e)) (λ e. absurd (nobody i v g e))

  -- the slot goes out at the opening
  pub slot_out_keeps : (m : Moment S B E) (h : Stands m) (i : ℕ) (v : View B E) → get_elem? m.views i ≡ some v → 0 < v.knows.parts → v.vacant ≡ true → Stands (slot_out m i v)
  slot_out_keeps m h i v g some-part vacant = let w : View B E = record v { knows = looked v.knows m.word; vacant = false } in let sum = total_set holding m.views i v w g in
      let holds = (h.vacant i v g vacant).0 in let is = holder_odd base_of entries_of session base m h i v g holds in
      let f = fits_looked base_of entries_of session base h.history v m.word (h.each i v g) some-part (omega (arith, half_is base_of entries_of session base m h)) in
      quiet base_of entries_of session base m h i v w m.word none g refl refl record { lives = inr (based base_of entries_of session base h.history v (h.each i v g) some-part, some-part); front = f.front; holder = f.holder; ascending = f.ascending; within = f.within; sessions = f.sessions; found = f.found; found_before = f.found_before; shorter = f.shorter }
      (λ e. let o : m.word % 2 ≡ 1 = is.3 in absurd (omega arith)) (λ e. let t = h.odd e in (t.0, omega (arith, t.1, sum)))
      (λ j u n d e. absurd (no_other base_of entries_of session base m h i j v u n g holds d (h.vacant j u d e).0)) (λ e. absurd (true≢false (sym e)))

  -- and comes home empty at the close
  pub slot_in_keeps : (m : Moment S B E) (h : Stands m) (i : ℕ) (v : View B E) → get_elem? m.views i ≡ some v → 0 < v.knows.parts → v.knows.holds ≡ true → Stands (slot_in m i v)
  slot_in_keeps m h i v g some-part holds = let w : View B E = record v { knows = looked v.knows m.word; vacant = true } in let sum = total_set holding m.views i v w g in
      let is = holder_odd base_of entries_of session base m h i v g holds in
      let f = fits_looked base_of entries_of session base h.history v m.word (h.each i v g) some-part (omega (arith, half_is base_of entries_of session base m h)) in
      quiet base_of entries_of session base m h i v w m.word (some std.None) g refl refl record { lives = inr (based base_of entries_of session base h.history v (h.each i v g) some-part, some-part); front = f.front; holder = f.holder; ascending = f.ascending; within = f.within; sessions = f.sessions; found = f.found; found_before = f.found_before; shorter = f.shorter }
      (λ e. let o : m.word % 2 ≡ 1 = is.3 in absurd (omega arith)) (λ e. let t = h.odd e in (t.0, omega (arith, t.1, sum)))
      (λ j u n d e. absurd (no_other base_of entries_of session base m h i j v u n g holds d (h.vacant j u d e).0)) (λ e. (holds, refl))

  -- leave
  pub leave_keeps : (m : Moment S B E) (h : Stands m) (i : ℕ) (v : View B E) (value : S) → get_elem? m.views i ≡ some v → 0 < v.knows.parts → v.knows.holds ≡ true → v.vacant ≡ false
      → base_of value ≡ base → entries_of value ≡ v.knows.seen → Stands (leave m i v value)
  leave_keeps m h i v value g some-part holds full same-base same = let w : View B E = knowing v (left v.knows) in let sum = total_set holding m.views i v w g in
      let is = holder_odd base_of entries_of session base m h i v g holds in let f = h.each i v g in let long = ap length is.2 in
      let last : m.word ≡ 2 * length h.history + 1 = is.0 in
      quiet base_of entries_of session base m h i v w (m.word - 1) (some (Some value)) g refl refl
      record {
        lives = inr (based base_of entries_of session base h.history v f some-part, some-part);
        front = f.front;
        holder = λ e. absurd (true≢false (sym e));
        ascending = f.ascending;
        within = f.within;
        sessions = f.sessions;
        found = omega (arith, long);
        found_before = f.found;
        shorter = f.shorter;
      }
      (λ e. (omega arith, omega (arith, is.1, sum, holding_yes v holds), (value, refl, same-base, same ∙ is.2))) (λ e. absurd (omega arith))
      (λ j u n d e. absurd (no_other base_of entries_of session base m h i j v u n g holds d (h.vacant j u d e).0)) (λ e. absurd (true≢false (sym e ∙ full)))

  -- A view beside a history that has one entry more, which isn't of this view's sessions.
  pub fits_longer : (history : List E) (entry : E) (v : View B E) → Fits session base history v → v.knows.holds ≡ false → (Has v.knows.mine (session entry) → ⊥) → Fits session base (history ++ entry ∷ []) v
  fits_longer history entry v f free not-mine = let long = length-append history (entry ∷ []) in let front = front_length v.knows.seen history f.front in record {
    lives = f.lives;
    front = front_trans v.knows.seen history (history ++ entry ∷ []) f.front (entry ∷ [], refl);
    holder = λ e. absurd (true≢false (sym e ∙ free));
    ascending = f.ascending;
    within = f.within;
    sessions = λ place e is. ⊎_elim (λ old. f.sessions place e old) (λ last. (
      (λ has. let near = f.within place has in let at : place ≡ length history = last.0 in absurd (omega arith)),
      (λ has. absurd (not-mine (subst (λ x. Has v.knows.mine (session x)) (sym last.1) has))),
    )) (get_snoc history entry place e is);
    found = omega (arith, f.found, long);
    found_before = omega (arith, f.found_before, long);
    shorter = f.shorter;
  }

  -- the view that commits, beside the history with its entry
  pub fits_committed : (history : List E) (entry : E) (v : View B E) → Fits session base history v → 0 < v.knows.parts → v.knows.seen ≡ history
      → ((place : ℕ) (e : E) → slice_get history place ≡ Some e → session e ≤ place)
      → (session entry ≡ length history) ⊎ Has v.knows.mine (session entry)
      → Fits session base (history ++ entry ∷ []) (knowing v (committed v.knows (history ++ entry ∷ [])))
  fits_committed history entry v f some-part whole opened own = let long = length-append history (entry ∷ []) in let n : ℕ = length v.knows.seen in let is : n ≡ length history = ap length whole in record {
    lives = inr (based base_of entries_of session base history v f some-part, some-part);
    front = front_refl (history ++ entry ∷ []);
    holder = λ e. refl;
    ascending = ascending_snoc v.knows.mine n f.ascending f.within;
    within = λ place has. ⊎_elim (λ old. let near = f.within place old in omega (arith, long, is)) (λ (e : place ≡ n). omega (arith, long, is)) (has_snoc v.knows.mine n place has);
    sessions = λ place e at. ⊎_elim (λ old. let near = slice_get_within history place e old in let before = opened place e old in let same = f.sessions place e old in (
      (λ has. ⊎_elim (λ mine. snoc_old v.knows.mine n (session e) (same.0 mine)) (λ (last : place ≡ n). absurd (omega (arith, is, near))) (has_snoc v.knows.mine n place has)),
      (λ has. ⊎_elim (λ mine. snoc_old v.knows.mine n place (same.1 mine)) (λ (last : session e ≡ n). absurd (omega (arith, is, near, before))) (has_snoc v.knows.mine n (session e) has)),
    ))
        (λ last. let place_is : n ≡ place = is ∙ sym last.0 in (
          (λ has. ⊎_elim (λ (opens : session entry ≡ length history). subst (λ p. Has (v.knows.mine ++ n ∷ []) p) (is ∙ (sym opens ∙ ap session last.1)) (snoc_new v.knows.mine n))
              (λ mine. snoc_old v.knows.mine n (session e) (subst (λ x. Has v.knows.mine (session x)) last.1 mine)) own),
          (λ has. subst (λ p. Has (v.knows.mine ++ n ∷ []) p) place_is (snoc_new v.knows.mine n)),
        )) (get_snoc history entry place e at);
    found = omega (arith, long, is);
    found_before = omega (arith, f.found, long);
    shorter = front_trans v.shorter v.knows.seen (history ++ entry ∷ []) f.shorter (front_trans v.knows.seen history (history ++ entry ∷ []) f.front (entry ∷ [], refl));
  }

  -- commit
  pub commit_keeps : (m : Moment S B E) (h : Stands m) (i : ℕ) (v : View B E) (value : S) (entry : E) → get_elem? m.views i ≡ some v → 0 < v.knows.parts → v.knows.holds ≡ true → v.vacant ≡ false
      → base_of value ≡ base → entries_of value ≡ h.history ++ entry ∷ [] → (session entry ≡ length v.knows.seen) ⊎ Has v.knows.mine (session entry) → Stands (commit m i v value (h.history ++ entry ∷ []))
  commit_keeps m h i v value entry g some-part holds full same-base same own = let journal : List E = h.history ++ entry ∷ [] in let w : View B E = knowing v (committed v.knows journal) in let f = h.each i v g in
      let is = holder_odd base_of entries_of session base m h i v g holds in let word : m.word ≡ 2 * length h.history + 1 = is.0 in let whole : length v.knows.seen ≡ length h.history = ap length is.2 in let long = length-append h.history (entry ∷ []) in
      let sum = total_set holding m.views i v w g in let opens : (session entry ≡ length h.history) ⊎ Has v.knows.mine (session entry) = ⊎_elim (λ (e : session entry ≡ length v.knows.seen). inl (e ∙ whole)) (λ t. inr t) own in
      let at : (m.word + 1) % 2 ≡ 0 = omega arith in
      let alone : (j : ℕ) (u : View B E) → j ≢ i → get_elem? m.views j ≡ some u → u.knows.holds ≡ true → ⊥ = λ j u n d. no_other base_of entries_of session base m h i j v u n g holds d in
      let not : (u : View B E) → (u.knows.holds ≡ true → ⊥) → u.knows.holds ≡ false = λ u n. not_true u.knows.holds n in
      record {
        history = journal;
        even = λ e. (omega (arith, long), omega (arith, is.1, sum, holding_yes v holds), (value, refl, same-base, same));
        odd = λ e. absurd (omega arith);
        vacant = each_set (λ u. u.vacant ≡ true → (u.knows.holds ≡ true) × (some (Some value) ≡ some std.None)) m.views i w (λ j u n d e. absurd (alone j u n d (h.vacant j u d e).0)) (λ e. absurd (true≢false (sym e ∙ full)));
        each = each_set (Fits session base journal) m.views i w (λ j u n d. fits_longer h.history entry u (h.each j u d) (not u (alone j u n d))
            (λ has. ⊎_elim (λ (e : session entry ≡ length h.history). let near = (h.each j u d).within (session entry) has in let short = front_length u.knows.seen h.history (h.each j u d).front in omega arith)
            (λ mine. h.apart i j v u (λ e. n (sym e)) g d (session entry) mine has) opens))
            (fits_committed h.history entry v f some-part is.2 h.opened opens);
        apart = pairs_set (λ x y. Apart x.knows.mine y.knows.mine) (λ x y a p s t. a p t s) m.views i w
            (λ j u n d place has other. ⊎_elim (λ mine. h.apart i j v u (λ e. n (sym e)) g d place mine other)
            (λ (e : place ≡ length v.knows.seen). let near = (h.each j u d).within place other in let short = front_length u.knows.seen h.history (h.each j u d).front in omega (arith, whole)) (has_snoc v.knows.mine (length v.knows.seen) place has)) h.apart;
        opened = λ place e at. ⊎_elim (λ old. h.opened place e old) (λ last. ⊎_elim (λ (t : session entry ≡ length h.history). let s : session e ≡ session entry = ap session (sym last.1) in let p : place ≡ length h.history = last.0 in omega arith)
            (λ mine. let near = f.within (session entry) mine in let s : session e ≡ session entry = ap session (sym last.1) in let p : place ≡ length h.history = last.0 in omega (arith, whole)) opens) (get_snoc h.history entry place e at);
        covered = λ place near. dite (ℕ_discrete place (length v.knows.seen)) (λ last. (i, w, set_here m.views i w (within m.views i v g), subst (λ p. Has (v.knows.mine ++ length v.knows.seen ∷ []) p) (sym last) (snoc_new v.knows.mine (length v.knows.seen))))
            (λ other. let t = h.covered place (omega (arith, long, whole)) in dite (ℕ_discrete t.0 i)
            (λ is. (i, w, set_here m.views i w (within m.views i v g), snoc_old v.knows.mine (length v.knows.seen) place (subst (λ x. Has x.knows.mine place) (one_there m.views t.0 i t.1 v is t.2 g) t.3)))
            (λ n. (t.0, t.1, set_else m.views i t.0 w n ∙ t.2, t.3)));
        parts = let all = h.parts in omega (arith, total_set parted m.views i v w g, all);
      }
