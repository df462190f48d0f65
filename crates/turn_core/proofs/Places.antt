-- Lemmas on places and fronts.
use Rattle.std.proofs.Common.{◌≡◌, ℕ, zero, suc, ◌<◌, ◌≤◌, ◌≢◌, ◌⊎◌, List, [], ◌∷◌, ◌++◌, length, cond, nat_lt, sym, refl, ap, ◌∙◌, subst, inl, inr, ⊎_elim, arith, append_assoc, append-nil, length-append, lt-ltb, le-ltb, Some, slice_get}
use Rattle.std.proofs.lemmas.Option.{none-some, same_Some}
use native.Mathlib.Decide.{dec_le}
use mathlib.Core.Logic.{dite}
use Rattle.turn_core.specs.Places.{IsFront, Has, Ascending, Apart, put, merged, longer, shorter}

-- an entry at the seam, and entries before it
module _ {E : Type 0} where
  pub get_longer : (xs ys : List E) (p : ℕ) (e : E) → slice_get xs p ≡ Some e → slice_get (xs ++ ys) p ≡ Some e
  get_longer [] ys p e g = absurd (none-some e g)
  get_longer (x ∷ xs) ys zero e g = g
  get_longer (x ∷ xs) ys (suc p) e g = get_longer xs ys p e g

  pub get_snoc : (xs : List E) (y : E) (p : ℕ) (e : E) → slice_get (xs ++ y ∷ []) p ≡ Some e → (slice_get xs p ≡ Some e) ⊎ ((p ≡ length xs) × (y ≡ e))
  get_snoc [] y zero e g = inr (refl, same_Some y e g)
  get_snoc [] y (suc p) e g = absurd (none-some e g)
  get_snoc (x ∷ xs) y zero e g = inl g
  get_snoc (x ∷ xs) y (suc p) e g = ⊎_elim (λ t. inl t) (λ t. inr (omega (arith, t.0), t.1)) (get_snoc xs y p e g)

  pub front_refl : (xs : List E) → IsFront xs xs
  front_refl xs = ([], sym (append-nil xs))

  pub front_nil : (xs : List E) → IsFront [] xs
  front_nil xs = (xs, refl)

  pub front_trans : (xs ys zs : List E) → IsFront xs ys → IsFront ys zs → IsFront xs zs
  front_trans xs ys zs f g = (f.0 ++ g.0, g.1 ∙ (ap (λ l. l ++ g.0) f.1 ∙ append_assoc xs f.0 g.0))

  pub front_length : (xs ys : List E) → IsFront xs ys → length xs ≤ length ys
  front_length xs ys f = let e = ap length f.1 in let a = length-append xs f.0 in omega (arith, e, a)

  behind : List E → List E
  behind [] = []
  behind (x ∷ xs) = xs

  -- of two fronts of one list, the one that isn't longer begins the other
  pub fronts : (xs ys zs : List E) → IsFront xs zs → IsFront ys zs → length xs ≤ length ys → IsFront xs ys
  unfolding behind
  fronts [] ys zs f g h = front_nil ys
  fronts (x ∷ xs) [] zs f g h = absurd (omega arith)
  fronts (x ∷ xs) (y ∷ ys) [] f g h = absurd (omega (arith, ap length f.1))
  fronts (x ∷ xs) (y ∷ ys) (z ∷ zs) f g h =
      let a : Some z ≡ Some x = ap (λ l. slice_get l 0) f.1 in let b : Some z ≡ Some y = ap (λ l. slice_get l 0) g.1 in
      let same : y ≡ x = sym (same_Some z y b) ∙ same_Some z x a in
      let t = fronts xs ys zs (f.0, ap behind f.1) (g.0, ap behind g.1) (omega arith) in
      (t.0, λ k. same k ∷ t.1 k)

-- a choice by a comparison
pub by_less : {X : Type 0} (P : X → Type 0) (a b : ℕ) (y n : X) → (a < b → P y) → (b ≤ a → P n) → P (cond (nat_lt a b) y n)
by_less P a b y n less more = dite (dec_le (suc a) b) (λ h. subst (λ c. P (cond c y n)) (sym (lt-ltb a b h)) (less h))
    (λ g. let h : b ≤ a = omega arith in subst (λ c. P (cond c y n)) (sym (le-ltb a b h)) (more h))

module _ {E : Type 0} where
  pub longer_left : (xs ys zs : List E) → IsFront xs zs → IsFront ys zs → IsFront xs (longer xs ys)
  longer_left xs ys zs f g = by_less (IsFront xs) (length xs) (length ys) ys xs (λ h. fronts xs ys zs f g (omega arith)) (λ h. front_refl xs)

  pub longer_right : (xs ys zs : List E) → IsFront xs zs → IsFront ys zs → IsFront ys (longer xs ys)
  longer_right xs ys zs f g = by_less (IsFront ys) (length xs) (length ys) ys xs (λ h. front_refl ys) (λ h. fronts ys xs zs g f h)

  pub longer_front : (xs ys zs : List E) → IsFront xs zs → IsFront ys zs → IsFront (longer xs ys) zs
  longer_front xs ys zs f g = by_less (λ l. IsFront l zs) (length xs) (length ys) ys xs (λ h. g) (λ h. f)

  pub shorter_front : (xs ys zs : List E) → IsFront xs zs → IsFront ys zs → IsFront (shorter xs ys) (longer xs ys)
  shorter_front xs ys zs f g = by_less (λ l. IsFront l (longer xs ys)) (length xs) (length ys) xs ys (λ h. longer_left xs ys zs f g) (λ h. longer_right xs ys zs f g)

  -- what both fronts are, once the shorter one is known to begin the longer one
  pub begins_left : (xs ys : List E) → IsFront (shorter xs ys) (longer xs ys) → IsFront xs (longer xs ys)
  begins_left xs ys = by_less (λ l. IsFront (shorter xs ys) l → IsFront xs l) (length xs) (length ys) ys xs
      (λ h. by_less (λ l. IsFront l ys → IsFront xs ys) (length xs) (length ys) xs ys (λ _ f. f) (λ g. absurd (omega arith))) (λ h f. front_refl xs)

  pub begins_right : (xs ys : List E) → IsFront (shorter xs ys) (longer xs ys) → IsFront ys (longer xs ys)
  begins_right xs ys = by_less (λ l. IsFront (shorter xs ys) l → IsFront ys l) (length xs) (length ys) ys xs (λ h f. front_refl ys)
      (λ h. by_less (λ l. IsFront l xs → IsFront ys xs) (length xs) (length ys) xs ys (λ g. absurd (omega arith)) (λ _ f. f))

pub has_snoc : (xs : List ℕ) (p q : ℕ) → Has (xs ++ p ∷ []) q → Has xs q ⊎ (q ≡ p)
has_snoc [] p q h = ⊎_elim (λ e. inr e) (λ n. absurd n) h
has_snoc (x ∷ xs) p q h = ⊎_elim (λ e. inl (inl e)) (λ t. ⊎_elim (λ s. inl (inr s)) (λ e. inr e) (has_snoc xs p q t)) h

pub snoc_old : (xs : List ℕ) (p q : ℕ) → Has xs q → Has (xs ++ p ∷ []) q
snoc_old [] p q h = absurd h
snoc_old (x ∷ xs) p q h = ⊎_elim (λ e. inl e) (λ t. inr (snoc_old xs p q t)) h

pub snoc_new : (xs : List ℕ) (p : ℕ) → Has (xs ++ p ∷ []) p
snoc_new [] p = inl refl
snoc_new (x ∷ xs) p = inr (snoc_new xs p)

pub ascending_snoc : (xs : List ℕ) (p : ℕ) → Ascending xs → ((q : ℕ) → Has xs q → q < p) → Ascending (xs ++ p ∷ [])
ascending_snoc [] p a h = ((λ q n. absurd n), tt)
ascending_snoc (x ∷ xs) p a h = (
  (λ q t. ⊎_elim (λ s. a.0 q s) (λ (e : q ≡ p). let b : x < p = h x (inl refl) in omega arith) (has_snoc xs p q t)),
  ascending_snoc xs p a.1 (λ q t. h q (inr t)),
)

pub has_put : (p : ℕ) (xs : List ℕ) (q : ℕ) → Has (put p xs) q → (q ≡ p) ⊎ Has xs q
has_put p [] q h = ⊎_elim (λ e. inl e) (λ n. absurd n) h
has_put p (x ∷ xs) q h = by_less (λ l. Has l q → (q ≡ p) ⊎ Has (x ∷ xs) q) p x (p ∷ x ∷ xs) (x ∷ put p xs) (λ _ t. t)
    (λ _ t. ⊎_elim (λ e. inr (inl e)) (λ s. ⊎_elim (λ e. inl e) (λ r. inr (inr r)) (has_put p xs q s)) t) h

pub put_new : (p : ℕ) (xs : List ℕ) → Has (put p xs) p
put_new p [] = inl refl
put_new p (x ∷ xs) = by_less (λ l. Has l p) p x (p ∷ x ∷ xs) (x ∷ put p xs) (λ _. inl refl) (λ _. inr (put_new p xs))

pub put_old : (p : ℕ) (xs : List ℕ) (q : ℕ) → Has xs q → Has (put p xs) q
put_old p [] q h = absurd h
put_old p (x ∷ xs) q h = by_less (λ l. Has l q) p x (p ∷ x ∷ xs) (x ∷ put p xs) (λ _. inr h) (λ _. ⊎_elim (λ e. inl e) (λ t. inr (put_old p xs q t)) h)

pub ascending_put : (p : ℕ) (xs : List ℕ) → Ascending xs → (Has xs p → ⊥) → Ascending (put p xs)
ascending_put p [] a n = ((λ q h. absurd h), tt)
ascending_put p (x ∷ xs) a n = by_less Ascending p x (p ∷ x ∷ xs) (x ∷ put p xs)
    (λ less. ((λ q h. ⊎_elim (λ (e : q ≡ x). let b : p < q = omega arith in b) (λ t. let b : x < q = a.0 q t in omega arith) h), a))
    (λ more. let other : p ≢ x = λ e. n (inl e) in ((λ q h. ⊎_elim (λ (e : q ≡ p). let b : x < q = omega arith in b) (λ t. a.0 q t) (has_put p xs q h)), ascending_put p xs a.1 (λ h. n (inr h))))

-- what was put there wasn't there, if the places are ascending now
pub unput : (p : ℕ) (xs : List ℕ) → Ascending (put p xs) → Ascending xs × (Has xs p → ⊥)
unput p [] a = (tt, λ h. h)
unput p (x ∷ xs) a = by_less (λ l. Ascending l → Ascending (x ∷ xs) × (Has (x ∷ xs) p → ⊥)) p x (p ∷ x ∷ xs) (x ∷ put p xs)
    (λ less a. (a.1, λ h. let b : p < p = a.0 p h in absurd (omega arith)))
    (λ more a. let t = unput p xs a.1 in (
      ((λ q h. a.0 q (put_old p xs q h)), t.0),
      λ h. ⊎_elim (λ (e : p ≡ x). let b : x < p = a.0 p (put_new p xs) in absurd (omega arith)) t.1 h,
    )) a

pub has_merged : (xs ys : List ℕ) (q : ℕ) → Has (merged xs ys) q → Has xs q ⊎ Has ys q
has_merged xs [] q h = inl h
has_merged xs (y ∷ ys) q h = ⊎_elim (λ t. ⊎_elim (λ e. inr (inl e)) (λ s. inl s) (has_put y xs q t)) (λ t. inr (inr t)) (has_merged (put y xs) ys q h)

pub merged_left : (xs ys : List ℕ) (q : ℕ) → Has xs q → Has (merged xs ys) q
merged_left xs [] q h = h
merged_left xs (y ∷ ys) q h = merged_left (put y xs) ys q (put_old y xs q h)

pub merged_right : (xs ys : List ℕ) (q : ℕ) → Has ys q → Has (merged xs ys) q
merged_right xs [] q h = absurd h
merged_right xs (y ∷ ys) q h = ⊎_elim (λ e. merged_left (put y xs) ys q (subst (λ r. Has (put y xs) r) (sym e) (put_new y xs))) (λ t. merged_right (put y xs) ys q t) h

pub ascending_merged : (xs ys : List ℕ) → Ascending xs → Ascending ys → Apart xs ys → Ascending (merged xs ys)
ascending_merged xs [] a b n = a
ascending_merged xs (y ∷ ys) a b n = ascending_merged (put y xs) ys (ascending_put y xs a (λ h. n y h (inl refl))) b.1
    (λ q h t. ⊎_elim (λ (e : q ≡ y). let c : y < q = b.0 q t in absurd (omega arith)) (λ s. n q s (inr t)) (has_put y xs q h))

unmerged : (xs ys : List ℕ) → Ascending (merged xs ys) → Ascending xs
unmerged xs [] a = a
unmerged xs (y ∷ ys) a = (unput y xs (unmerged (put y xs) ys a)).0

-- lists whose places together are ascending share none
pub apart_merged : (xs ys : List ℕ) → Ascending (merged xs ys) → Apart xs ys
apart_merged xs [] a q h t = t
apart_merged xs (y ∷ ys) a q h t =
    ⊎_elim (λ e. (unput y xs (unmerged (put y xs) ys a)).1 (subst (λ r. Has xs r) e h)) (λ s. apart_merged (put y xs) ys a q (put_old y xs q h) s) t
