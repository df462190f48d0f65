-- That a split and a join keep the history of the turn.
use Rattle.std.proofs.Common.{◌≡◌, ℕ, ◌/◌, ◌%◌, ◌<◌, ◌≢◌, ◌⊎◌, true, false, List, [], ◌∷◌, ◌++◌, set, sym, refl, ◌∙◌, subst, inl, inr, ⊎_elim, arith, None, true≢false}
use Rattle.std.specs.Prelude as std
use native.Mathlib.Decide.{ℕ_discrete}
use mathlib.Core.Logic.{dite}
use mathlib.Core.Option.{some}
use lib.ListN.{get_elem?}
use Rattle.atomic_table.proofs.Lists.{at_set, set_here, set_else, at_longer, at_snoc}
use Rattle.turn_core.specs.Places.{Has, Apart, longer, shorter}
use Rattle.turn_core.specs.Knowledge.{spent, plain, knowing, halved, split_off, joined}
use Rattle.turn_core.specs.History.{Moment, History, Fits, HoldersOf}
use Rattle.turn_core.specs.Steps.{split, join}
use Rattle.turn_core.specs.declared.view.View.{View}
use Rattle.turn_core.proofs.Places.{front_length, front_nil, longer_left, longer_right, longer_front, shorter_front, has_merged, merged_left, merged_right, ascending_merged}
use Rattle.turn_core.proofs.Lists.{within, total_and, total_set, each_set, pairs_set}
use Rattle.turn_core.proofs.Standing.{holding, parted, holding_no, one_there, based}

module _ {S B E : Type 0} (base_of : S → B) (entries_of : S → List E) (session : E → ℕ) (base : B) where
  abbrev Stands : Moment S B E → Type 0
  Stands = History base_of entries_of session base

  each_longer : {A : Type 0} (P : A → Type 0) (l : List A) (a : A) → ((j : ℕ) (u : A) → get_elem? l j ≡ some u → P u) → P a → (j : ℕ) (u : A) → get_elem? (l ++ a ∷ []) j ≡ some u → P u
  each_longer P l a old new j u e = ⊎_elim (λ t. old j u t) (λ t. subst P t new) (at_snoc l a u j e)

  -- split
  pub split_keeps : (m : Moment S B E) (h : Stands m) (i : ℕ) (v : View B E) → get_elem? m.views i ≡ some v → 0 < v.knows.parts → v.knows.holds ≡ false → v.knows.parts % 2 ≡ 0 → Stands (split m i v)
  split_keeps m h i v g some-part free halves = let w : View B E = knowing v (halved v.knows) in let r : View B E = plain (split_off v.knows) in let f = h.each i v g in let l = set m.views i w in
      let b = based base_of entries_of session base h.history v f some-part in let half : 0 < v.knows.parts / 2 = omega arith in let none_left : v.knows.mine ≡ v.knows.mine = refl in
      let holders : HoldersOf (l ++ r ∷ []) ≡ HoldersOf m.views = omega (arith, total_and holding l r, total_set holding m.views i v w g, holding_no v free) in
      record {
        history = h.history;
        even = λ e. let t = h.even e in (t.0, holders ∙ t.1, t.2);
        odd = λ e. let t = h.odd e in (t.0, holders ∙ t.1);
        vacant = each_longer (λ u. u.vacant ≡ true → (u.knows.holds ≡ true) × (m.slot ≡ some std.None)) l r (each_set (λ u. u.vacant ≡ true → (u.knows.holds ≡ true) × (m.slot ≡ some std.None)) m.views i w (λ j u n d. h.vacant j u d) (h.vacant i v g)) (λ e. absurd (true≢false (sym e)));
        each = each_longer (Fits session base h.history) l r
            (each_set (Fits session base h.history) m.views i w (λ j u n d. h.each j u d) record {
              lives = inr (b, half);
              front = f.front;
              holder = f.holder;
              ascending = f.ascending;
              within = f.within;
              sessions = f.sessions;
              found = f.found;
              found_before = f.found_before;
              shorter = f.shorter;
            })
            record {
              lives = inr (b, half);
              front = f.front;
              holder = λ e. absurd (true≢false (sym e));
              ascending = tt;
              within = λ place has. absurd has;
              sessions = λ place entry e. ((λ has. has), λ has. has);
              found = omega arith;
              found_before = omega arith;
              shorter = front_nil v.knows.seen;
            };
        apart = λ j k x y n d e. ⊎_elim
            (λ d'. ⊎_elim (λ e'. pairs_set (λ x y. Apart x.knows.mine y.knows.mine) (λ x y a p s t. a p t s) m.views i w (λ j u n d. h.apart i j v u (λ c. n (sym c)) g d) h.apart j k x y n d' e')
            (λ (is : r ≡ y). λ place has other. subst (λ z. Has z.knows.mine place → ⊥) is (λ c. c) other) (at_snoc l r y k e))
            (λ (is : r ≡ x). λ place has other. subst (λ z. Has z.knows.mine place → ⊥) is (λ c. c) has) (at_snoc l r x j d);
        opened = h.opened;
        covered = λ place near. let t = h.covered place near in dite (ℕ_discrete t.0 i)
            (λ is. (i, w, at_longer l (r ∷ []) i w (set_here m.views i w (within m.views i v g)), subst (λ x. Has x.knows.mine place) (one_there m.views t.0 i t.1 v is t.2 g) t.3))
            (λ n. (t.0, t.1, at_longer l (r ∷ []) t.0 t.1 (set_else m.views i t.0 w n ∙ t.2), t.3));
        parts = let all = h.parts in omega (arith, total_and parted l r, total_set parted m.views i v w g, all);
      }

  -- join
  pub join_keeps : (m : Moment S B E) (h : Stands m) (i : ℕ) (v : View B E) (j : ℕ) (u : View B E) → get_elem? m.views i ≡ some v → get_elem? m.views j ≡ some u → j ≢ i → 0 < v.knows.parts → v.knows.holds ≡ false → u.knows.holds ≡ false
      → v.vacant ≡ false → Stands (join m i v j u)
  join_keeps m h i v j u g d n some-part free free' full = let w : View B E = record v { knows = joined v.knows u.knows; shorter = shorter v.knows.seen u.knows.seen } in let l = set m.views i w in let f = h.each i v g in let f' = h.each j u d in
      let b = based base_of entries_of session base h.history v f some-part in let there : get_elem? l j ≡ some u = set_else m.views i j w n ∙ d in
      let a : Apart v.knows.mine u.knows.mine = h.apart i j v u (λ e. n (sym e)) g d in
      let left = longer_left v.knows.seen u.knows.seen h.history f.front f'.front in let right = longer_right v.knows.seen u.knows.seen h.history f.front f'.front in
      let holders : HoldersOf (set l j spent) ≡ HoldersOf m.views = omega (arith, total_set holding m.views i v w g, total_set holding l j u spent there, holding_no v free, holding_no u free') in
      let mine : (k : ℕ) (x : View B E) → k ≢ j → get_elem? l k ≡ some x → (k ≡ i) × (w ≡ x) ⊎ (k ≢ i) × (get_elem? m.views k ≡ some x) = λ k x o e. at_set m.views i k w x e in
      record {
        history = h.history;
        even = λ e. let t = h.even e in (t.0, holders ∙ t.1, t.2);
        odd = λ e. let t = h.odd e in (t.0, holders ∙ t.1);
        vacant = each_set (λ x. x.vacant ≡ true → (x.knows.holds ≡ true) × (m.slot ≡ some std.None)) l j spent
            (λ k x o e. each_set (λ x. x.vacant ≡ true → (x.knows.holds ≡ true) × (m.slot ≡ some std.None)) m.views i w (λ k x o e. h.vacant k x e) (λ c. absurd (true≢false (sym c ∙ full))) k x e) (λ c. absurd (true≢false (sym c)));
        each = each_set (Fits session base h.history) l j spent
            (λ k x o e. each_set (Fits session base h.history) m.views i w (λ k x o e. h.each k x e) record {
              lives = inr (b, omega arith);
              front = longer_front v.knows.seen u.knows.seen h.history f.front f'.front;
              holder = λ c. absurd (true≢false (sym c ∙ free));
              ascending = ascending_merged v.knows.mine u.knows.mine f.ascending f'.ascending a;
              within = λ place has. ⊎_elim (λ old. let near = f.within place old in let long = front_length v.knows.seen (longer v.knows.seen u.knows.seen) left in omega arith)
                  (λ old. let near = f'.within place old in let long = front_length u.knows.seen (longer v.knows.seen u.knows.seen) right in omega arith) (has_merged v.knows.mine u.knows.mine place has);
              sessions = λ place entry e. let s = f.sessions place entry e in let s' = f'.sessions place entry e in (
                (λ has. ⊎_elim (λ old. merged_left v.knows.mine u.knows.mine (session entry) (s.0 old)) (λ old. merged_right v.knows.mine u.knows.mine (session entry) (s'.0 old)) (has_merged v.knows.mine u.knows.mine place has)),
                (λ has. ⊎_elim (λ old. merged_left v.knows.mine u.knows.mine place (s.1 old)) (λ old. merged_right v.knows.mine u.knows.mine place (s'.1 old)) (has_merged v.knows.mine u.knows.mine (session entry) has)),
              );
              found = f.found;
              found_before = f.found_before;
              shorter = shorter_front v.knows.seen u.knows.seen h.history f.front f'.front;
            } k x e)
            record {
              lives = inl refl;
              front = front_nil h.history;
              holder = λ c. absurd (true≢false (sym c));
              ascending = tt;
              within = λ place has. absurd has;
              sessions = λ place entry e. ((λ has. has), λ has. has);
              found = omega arith;
              found_before = omega arith;
              shorter = ([], refl);
            };
        apart = λ k o x y apart_places e c. ⊎_elim (λ t. λ place has other. subst (λ z. Has z.knows.mine place → ⊥) t.1 (λ q. q) has)
            (λ s. ⊎_elim (λ t. λ place has other. subst (λ z. Has z.knows.mine place → ⊥) t.1 (λ q. q) other)
            (λ t. ⊎_elim
            (λ p. ⊎_elim (λ q. absurd (apart_places (p.0 ∙ sym q.0)))
            (λ q. subst (λ z. Apart z.knows.mine y.knows.mine) p.1 (λ place has other. ⊎_elim (λ old. h.apart i o v y (λ z. q.0 (sym z)) g q.1 place old other) (λ old. h.apart j o u y (λ z. t.0 (sym z)) d q.1 place old other) (has_merged v.knows.mine u.knows.mine place has))) (at_set m.views i o w y t.1))
            (λ p. ⊎_elim (λ q. subst (λ z. Apart x.knows.mine z.knows.mine) q.1 (λ place has other. ⊎_elim (λ old. h.apart i k v x (λ z. p.0 (sym z)) g p.1 place old has) (λ old. h.apart j k u x (λ z. s.0 (sym z)) d p.1 place old has) (has_merged v.knows.mine u.knows.mine place other)))
            (λ q. h.apart k o x y apart_places p.1 q.1) (at_set m.views i o w y t.1)) (at_set m.views i k w x s.1))
            (at_set l j o spent y c)) (at_set l j k spent x e);
        opened = h.opened;
        covered = λ place near. let t = h.covered place near in let here : get_elem? (set l j spent) i ≡ some w = set_else l j i spent (λ z. n (sym z)) ∙ set_here m.views i w (within m.views i v g) in dite (ℕ_discrete t.0 i)
            (λ is. (i, w, here, merged_left v.knows.mine u.knows.mine place (subst (λ x. Has x.knows.mine place) (one_there m.views t.0 i t.1 v is t.2 g) t.3)))
            (λ o. dite (ℕ_discrete t.0 j) (λ is. (i, w, here, merged_right v.knows.mine u.knows.mine place (subst (λ x. Has x.knows.mine place) (one_there m.views t.0 j t.1 u is t.2 d) t.3)))
            (λ p. (t.0, t.1, set_else l j t.0 spent p ∙ (set_else m.views i t.0 w o ∙ t.2), t.3)));
        parts = let all = h.parts in omega (arith, total_set parted m.views i v w g, total_set parted l j u spent there, all);
      }
