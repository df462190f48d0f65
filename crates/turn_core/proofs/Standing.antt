-- What follows from a history that stands, and the lemma that each kind of step uses which leaves the history and the places as they are.
use Rattle.std.proofs.Common.{◌≡◌, ℕ, ◌+◌, ◌*◌, ◌/◌, ◌%◌, ◌<◌, ◌≤◌, ◌≢◌, true, false, List, length, cond, set, sym, ap, ◌∙◌, subst, inr, ⊎_elim, arith, Some, None, slice_get}
use Rattle.std.specs.Prelude as std
use native.Mathlib.Decide.{ℕ_discrete}
use mathlib.Core.Logic.{dite}
use mathlib.Core.Option.{Option, some, some-injective}
use lib.ListN.{get_elem?}
use Rattle.atomic_table.proofs.Lists.{set_here, set_else}
use Rattle.turn_core.specs.Places.{Has, Apart}
use Rattle.turn_core.specs.Knowledge.{knowing, looked}
use Rattle.turn_core.specs.History.{Moment, History, Fits, AtHome, HoldersOf}
use Rattle.turn_core.specs.Plays.{Told}
use Rattle.turn_core.specs.declared.view.View.{View}
use Rattle.turn_core.proofs.Places.{get_longer, front_length}
use Rattle.turn_core.proofs.Lists.{within, total_set, one_of, two_of, each_set, pairs_set}

module _ {B E : Type 0} where
  abbrev pub holding : View B E → ℕ
  holding v = cond v.knows.holds 1 0

  abbrev pub parted : View B E → ℕ
  parted v = v.knows.parts

  pub holding_yes : (v : View B E) → v.knows.holds ≡ true → holding v ≡ 1
  holding_yes v h = ap (λ b. cond b 1 0) h

  pub holding_no : (v : View B E) → v.knows.holds ≡ false → holding v ≡ 0
  holding_no v h = ap (λ b. cond b 1 0) h

-- one place of a list has one entry
pub one_there : {A : Type 0} (l : List A) (j i : ℕ) (u v : A) → j ≡ i → get_elem? l j ≡ some u → get_elem? l i ≡ some v → u ≡ v
one_there l j i u v e d g = some-injective u v (sym d ∙ (ap (get_elem? l) e ∙ g))

-- the word is even or odd
pub parity : {P : Type 0} (n : ℕ) → (n % 2 ≡ 0 → P) → (n % 2 ≡ 1 → P) → P
parity n even odd = dite (ℕ_discrete (n % 2) 0) even (λ ne. odd (omega arith))

module _ {S B E : Type 0} (base_of : S → B) (entries_of : S → List E) (session : E → ℕ) (base : B) where
  abbrev Stands : Moment S B E → Type 0
  Stands = History base_of entries_of session base

  -- half of the word is the number of entries
  pub half_is : (m : Moment S B E) (h : Stands m) → m.word / 2 ≡ length h.history
  half_is m h = parity m.word (λ e. let t : m.word ≡ 2 * length h.history = (h.even e).0 in omega arith) (λ e. let t : m.word ≡ 2 * length h.history + 1 = (h.odd e).0 in omega arith)

  -- while a view holds the turn, the word is odd, and it has seen the whole history
  pub holder_odd : (m : Moment S B E) (h : Stands m) (i : ℕ) (v : View B E) → get_elem? m.views i ≡ some v → v.knows.holds ≡ true
      → (m.word ≡ 2 * length h.history + 1) × (HoldersOf m.views ≡ 1) × (v.knows.seen ≡ h.history) × (m.word % 2 ≡ 1)
  holder_odd m h i v g holds = parity m.word (λ e. let t : HoldersOf m.views ≡ 0 = (h.even e).1 in let one = one_of holding m.views i v g in absurd (omega (arith, one, holding_yes v holds)))
      (λ e. let t = h.odd e in (t.0, t.1, (h.each i v g).holder holds, e))

  -- no other view holds it then
  pub no_other : (m : Moment S B E) (h : Stands m) (i j : ℕ) (v u : View B E) → j ≢ i → get_elem? m.views i ≡ some v → v.knows.holds ≡ true → get_elem? m.views j ≡ some u → u.knows.holds ≡ true → ⊥
  no_other m h i j v u n g holds d other = let one : HoldersOf m.views ≡ 1 = (holder_odd m h i v g holds).1 in let two = two_of holding m.views i j v u n g d in
      omega (arith, one, two, holding_yes v holds, holding_yes u other)

  -- the entries of what a view has seen are those of the history
  pub seen_is : (m : Moment S B E) (h : Stands m) (i : ℕ) (v : View B E) → get_elem? m.views i ≡ some v → (place : ℕ) (entry : E) → slice_get v.knows.seen place ≡ Some entry → slice_get h.history place ≡ Some entry
  seen_is m h i v g place entry e = let f = (h.each i v g).front in subst (λ l. slice_get l place ≡ Some entry) (sym f.1) (get_longer v.knows.seen f.0 place entry e)

  -- what a view is known to be by itself
  pub sound : (m : Moment S B E) (h : Stands m) (i : ℕ) (v : View B E) → get_elem? m.views i ≡ some v → 0 < v.knows.parts → Told session v
  sound m h i v g some-part = let f = h.each i v g in (
    record {
      part = some-part;
      at_most = let one = one_of parted m.views i v g in let sum = h.parts in omega (arith, one, sum);
      ascending = f.ascending;
      within = f.within;
      sessions = λ place entry e. f.sessions place entry (seen_is m h i v g place entry e);
      whole = λ all place near. let long = front_length v.knows.seen h.history f.front in let t = h.covered place (omega arith) in
          dite (ℕ_discrete t.0 i) (λ is. subst (λ x. Has x.knows.mine place) (one_there m.views t.0 i t.1 v is t.2 g) t.3)
          (λ other. let two = two_of parted m.views i t.0 v t.1 other g t.2 in let sum = h.parts in ⊎_elim (λ is. absurd (subst (λ x. Has x.knows.mine place) is t.3)) (λ (lives : _ × (0 < t.1.knows.parts)). let b : 0 < t.1.knows.parts = lives.1 in absurd (omega (arith, two, sum, all))) (h.each t.0 t.1 t.2).lives);
    },
    f.shorter,
  )

  -- a view with a part has the base
  pub based : (history : List E) (v : View B E) → Fits session base history v → 0 < v.knows.parts → v.knows.base ≡ Some base
  based history v f some-part = ⊎_elim (λ is. let gone : v.knows.parts ≡ 0 = ap (λ x. x.knows.parts) is in absurd (omega arith)) (λ (t : (v.knows.base ≡ Some base) × (0 < v.knows.parts)). t.0) f.lives

  -- A step by which the i-th view becomes w, with the same places and parts, and the history stays.
  pub quiet : (m : Moment S B E) (h : Stands m) (i : ℕ) (v w : View B E) (word : ℕ) (slot : Option (std.Option S)) → get_elem? m.views i ≡ some v
      → w.knows.mine ≡ v.knows.mine → w.knows.parts ≡ v.knows.parts → Fits session base h.history w
      → (word % 2 ≡ 0 → (word ≡ 2 * length h.history) × (HoldersOf (set m.views i w) ≡ 0) × AtHome base_of entries_of base h.history slot)
      → (word % 2 ≡ 1 → (word ≡ 2 * length h.history + 1) × (HoldersOf (set m.views i w) ≡ 1))
      → ((j : ℕ) (u : View B E) → j ≢ i → get_elem? m.views j ≡ some u → u.vacant ≡ true → (u.knows.holds ≡ true) × (slot ≡ some std.None))
      → (w.vacant ≡ true → (w.knows.holds ≡ true) × (slot ≡ some std.None))
      → Stands (record { word = word; slot = slot; views = set m.views i w })
  quiet m h i v w word slot g mine parts fits even odd others own = record {
    history = h.history;
    even = even;
    odd = odd;
    vacant = each_set (λ u. u.vacant ≡ true → (u.knows.holds ≡ true) × (slot ≡ some std.None)) m.views i w others own;
    each = each_set (Fits session base h.history) m.views i w (λ j u n d. h.each j u d) fits;
    apart = pairs_set (λ x y. Apart x.knows.mine y.knows.mine) (λ x y a p s t. a p t s) m.views i w
        (λ j u n d. subst (λ l. Apart l u.knows.mine) (sym mine) (h.apart i j v u (λ e. n (sym e)) g d)) h.apart;
    opened = h.opened;
    covered = λ place near. let t = h.covered place near in
        dite (ℕ_discrete t.0 i) (λ is. (i, w, set_here m.views i w (within m.views i v g), subst (λ l. Has l place) (sym mine) (subst (λ x. Has x.knows.mine place) (one_there m.views t.0 i t.1 v is t.2 g) t.3)))
        (λ n. (t.0, t.1, set_else m.views i t.0 w n ∙ t.2, t.3));
    parts = let sum = h.parts in omega (arith, total_set parted m.views i v w g, sum, parts);
  }

  -- a view that has found one more word
  pub fits_looked : (history : List E) (v : View B E) (word : ℕ) → Fits session base history v → 0 < v.knows.parts → word / 2 ≤ length history → Fits session base history (knowing v (looked v.knows word))
  fits_looked history v word f some-part half = record {
    lives = inr (based history v f some-part, some-part);
    front = f.front;
    holder = f.holder;
    ascending = f.ascending;
    within = f.within;
    sessions = f.sessions;
    found = half;
    found_before = f.found;
    shorter = f.shorter;
  }
