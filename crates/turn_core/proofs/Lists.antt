-- Lemmas on the list of views, in which one entry changes.
use Rattle.std.proofs.Common.{◌≡◌, ℕ, zero, suc, ◌+◌, ◌<◌, ◌≤◌, ◌≢◌, List, [], ◌∷◌, ◌++◌, length, set, sym, refl, ap, ◌∙◌, subst, ⊎_elim, arith}
use mathlib.Core.Option.{some, some-injective, some-ne-none}
use lib.ListN.{get_elem?}
use Rattle.atomic_table.proofs.Lists.{at_set, set_here}
use Rattle.turn_core.specs.History.{total}

module _ {A : Type 0} where
  pub within : (views : List A) (i : ℕ) (v : A) → get_elem? views i ≡ some v → i < length views
  within [] i v e = absurd (some-ne-none v (sym e))
  within (first ∷ others) zero v e = omega arith
  within (first ∷ others) (suc i) v e = omega (arith, within others i v e)

  module _ (f : A → ℕ) where
    -- the sum over all entries but one
    abbrev without : List A → ℕ → ℕ
    without [] i = 0
    without (first ∷ others) zero = total f others
    without (first ∷ others) (suc i) = f first + without others i

    total_at : (views : List A) (i : ℕ) (v : A) → get_elem? views i ≡ some v → total f views ≡ f v + without views i
    total_at [] i v e = absurd (some-ne-none v (sym e))
    total_at (first ∷ others) zero v e = ap (λ x. f x + total f others) (some-injective first v e)
    total_at (first ∷ others) (suc i) v e = omega (arith, total_at others i v e)

    without_set : (views : List A) (i : ℕ) (w : A) → without (set views i w) i ≡ without views i
    without_set [] i w = refl
    without_set (first ∷ others) zero w = refl
    without_set (first ∷ others) (suc i) w = ap (λ n. f first + n) (without_set others i w)

    -- the sum changes by what the one entry changes
    pub total_set : (views : List A) (i : ℕ) (v w : A) → get_elem? views i ≡ some v → total f (set views i w) + f v ≡ total f views + f w
    total_set views i v w e =
        omega (arith, total_at views i v e, total_at (set views i w) i w (set_here views i w (within views i v e)), without_set views i w)

    -- no entry is more than the sum, nor are two
    pub one_of : (views : List A) (i : ℕ) (v : A) → get_elem? views i ≡ some v → f v ≤ total f views
    one_of views i v e = omega (arith, total_at views i v e)

    other_of : (views : List A) (i j : ℕ) (u : A) → j ≢ i → get_elem? views j ≡ some u → f u ≤ without views i
    other_of [] i j u n e = absurd (some-ne-none u (sym e))
    other_of (first ∷ others) zero zero u n e = absurd (n refl)
    other_of (first ∷ others) zero (suc j) u n e = one_of others j u e
    other_of (first ∷ others) (suc i) zero u n e = omega (arith, ap f (some-injective first u e))
    other_of (first ∷ others) (suc i) (suc j) u n e = omega (arith, other_of others i j u (λ h. n (ap suc h)) e)

    pub two_of : (views : List A) (i j : ℕ) (v u : A) → j ≢ i → get_elem? views i ≡ some v → get_elem? views j ≡ some u → f v + f u ≤ total f views
    two_of views i j v u n e d = omega (arith, total_at views i v e, other_of views i j u n d)

    pub total_and : (views : List A) (w : A) → total f (views ++ w ∷ []) ≡ total f views + f w
    total_and [] w = omega arith
    total_and (first ∷ others) w = omega (arith, total_and others w)

  -- what holds of the new entry and of all others holds of each
  pub each_set : (P : A → Type 0) (views : List A) (i : ℕ) (w : A) → ((j : ℕ) (u : A) → j ≢ i → get_elem? views j ≡ some u → P u) → P w → (j : ℕ) (u : A) → get_elem? (set views i w) j ≡ some u → P u
  each_set P views i w old new j u g = ⊎_elim (λ t. subst P t.1 new) (λ t. old j u t.0 t.1) (at_set views i j w u g)

  -- what holds of two entries holds of each two, if it holds of the new one and each other
  pub pairs_set : (P : A → A → Type 0) → ((v u : A) → P v u → P u v) → (views : List A) (i : ℕ) (w : A) → ((j : ℕ) (u : A) → j ≢ i → get_elem? views j ≡ some u → P w u)
      → ((j k : ℕ) (v u : A) → j ≢ k → get_elem? views j ≡ some v → get_elem? views k ≡ some u → P v u)
      → (j k : ℕ) (v u : A) → j ≢ k → get_elem? (set views i w) j ≡ some v → get_elem? (set views i w) k ≡ some u → P v u
  pairs_set P turned views i w new old j k v u n g h =
      ⊎_elim (λ s. ⊎_elim (λ t. absurd (n (s.0 ∙ sym t.0))) (λ t. subst (λ x. P x u) s.1 (new k u t.0 t.1)) (at_set views i k w u h))
      (λ s. ⊎_elim (λ t. subst (λ x. P v x) t.1 (turned w v (new j v s.0 s.1))) (λ t. old j k v u n s.1 t.1) (at_set views i k w u h)) (at_set views i j w v g)
