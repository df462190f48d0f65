-- What is in a list, and marks that are set.
use Rattle.std.proofs.Common.{◌≡◌, ◌≢◌, ℕ, zero, suc, ◌+◌, ◌<◌, ◌⊎◌, inl, inr, Bool, true, false, List, [], ◌∷◌, ◌++◌, length, Some, None, slice_get, slice_set, refl, sym, ap, subst, ◌∙◌, arith}
use Rattle.fw_closure.specs.Marks.{IsMarked, unmarked}
use Rattle.fw_zone.specs.Lists.{IsIn}

pub in_front : {A : Type 0} (xs ys : List A) (item : A) → IsIn item xs → IsIn item (xs ++ ys)
in_front [] ys item found = absurd found
in_front (x ∷ xs) ys item (inl here) = inl here
in_front (x ∷ xs) ys item (inr found) = inr (in_front xs ys item found)

pub at_end : {A : Type 0} (xs : List A) (item : A) → IsIn item (xs ++ item ∷ [])
at_end [] item = inl refl
at_end (x ∷ xs) item = inr (at_end xs item)

pub in_pushed : {A : Type 0} (xs : List A) (last item : A) → IsIn item (xs ++ last ∷ []) → IsIn item xs ⊎ (last ≡ item)
in_pushed [] last item (inl here) = inr here
in_pushed [] last item (inr found) = absurd found
in_pushed (x ∷ xs) last item (inl here) = inl (inl here)
in_pushed (x ∷ xs) last item (inr found) = elim (in_pushed xs last item found) [ inl before ↦ inl (inr before) | inr here ↦ inr here ]

pub place_of_in : {A : Type 0} (xs : List A) (item : A) → IsIn item xs → (place : ℕ) × (slice_get xs place ≡ Some item)
place_of_in [] item found = absurd found
place_of_in (x ∷ xs) item (inl here) = (zero, ap Some here)
place_of_in (x ∷ xs) item (inr found) = let rest = place_of_in xs item found in (suc rest.0, rest.1)

pub in_at : {A : Type 0} (xs : List A) (place : ℕ) (item : A) → slice_get xs place ≡ Some item → IsIn item xs
in_at [] place item is = cc
in_at (x ∷ xs) zero item is = inl cc
in_at (x ∷ xs) (suc place) item is = inr (in_at xs place item is)

-- a mark more
pub set_marks : (marks : List Bool) (place : ℕ) → place < length marks → IsMarked (slice_set marks place true) place
set_marks [] place bound = absurd (omega arith)
set_marks (mark ∷ marks) zero bound = refl
set_marks (mark ∷ marks) (suc place) bound = set_marks marks place (omega arith)

pub set_keeps : (marks : List Bool) (place other : ℕ) → IsMarked marks other → IsMarked (slice_set marks place true) other
set_keeps [] place other is = cc
set_keeps (mark ∷ marks) zero zero is = refl
set_keeps (mark ∷ marks) zero (suc other) is = is
set_keeps (mark ∷ marks) (suc place) zero is = is
set_keeps (mark ∷ marks) (suc place) (suc other) is = set_keeps marks place other is

pub set_only : (marks : List Bool) (place other : ℕ) → IsMarked (slice_set marks place true) other → IsMarked marks other ⊎ (other ≡ place)
set_only [] place other is = cc
set_only (mark ∷ marks) zero zero is = inr refl
set_only (mark ∷ marks) zero (suc other) is = inl is
set_only (mark ∷ marks) (suc place) zero is = inl is
set_only (mark ∷ marks) (suc place) (suc other) is = elim (set_only marks place other is) [ inl was ↦ inl was | inr here ↦ inr (ap suc here) ]

pub set_counts : (marks : List Bool) (place : ℕ) → slice_get marks place ≡ Some false → unmarked (slice_set marks place true) + 1 ≡ unmarked marks
set_counts [] place is = cc
set_counts (true ∷ marks) zero is = cc
set_counts (false ∷ marks) zero is = omega arith
set_counts (true ∷ marks) (suc place) is = set_counts marks place is
set_counts (false ∷ marks) (suc place) is = let rest = set_counts marks place is in omega arith

pub empty : {A : Type 0} (xs : List A) → length xs ≡ 0 → xs ≡ []
empty [] is = refl
empty (x ∷ xs) is = absurd (omega arith)
