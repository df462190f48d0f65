-- The numbers of objects, where one comes and where one goes.
use Rattle.std.proofs.Common.{◌≡◌, ◌∙◌, ◌⊎◌, inl, inr, ℕ, zero, suc, ◌+◌, ◌<◌, ◌≤◌, List, [], ◌∷◌, ◌++◌, length, Some, slice_get, remove, refl, sym, ap, subst, arith}
use Rattle.std.proofs.lemmas.Bool.{cases_lt}
use Rattle.fw_root_members.specs.Numbering.{behind}
use Rattle.fw_settings.specs.Valid.{AreNumbers, last_number}
use Rattle.fw_valid_edits.proofs.Edited.{each_in, each_pushed, each_removed, each_weaker}
use Rattle.fw_valid_edits.proofs.Entries.{pushed_at, removed_was, stands, was, was_one}

-- a number that is below the next one, or stays the last
abbrev IsBelow : (next number : ℕ) → Type 0
IsBelow next number = (number < next) ⊎ ((number ≡ last_number) × (next ≡ last_number))

-- the number behind a number: one more, or the last one
behind_more : (next : ℕ) → next < last_number → behind next ≡ next + 1
behind_more next less = grind arith

behind_last : (next : ℕ) → next ≡ last_number → behind next ≡ last_number
behind_last next same = grind arith

still_below : (next number : ℕ) → next ≤ last_number → IsBelow next number → IsBelow (behind next) number
still_below next number most (inl less) = by (cases_lt next last_number)
  where
    by : ((next < last_number) ⊎ (last_number ≤ next)) → IsBelow (behind next) number
    by (inl room) = let is = behind_more next room in inl (omega (arith, is))
    by (inr full) = let last : next ≡ last_number = omega arith in let is = behind_last next last in inl (omega (arith, is))
still_below next number most (inr (same, last)) = inr (same, behind_last next last)

itself_below : (next : ℕ) → next ≤ last_number → IsBelow (behind next) next
itself_below next most = by (cases_lt next last_number)
  where
    by : ((next < last_number) ⊎ (last_number ≤ next)) → IsBelow (behind next) next
    by (inl room) = let is = behind_more next room in inl (omega (arith, is))
    by (inr full) = let last : next ≡ last_number = omega arith in inr (last, behind_last next last)

one_longer : {A : Type 0} (items : List A) (item : A) → length (items ++ item ∷ []) ≡ suc (length items)
one_longer [] item = refl
one_longer (first ∷ items) item = ap suc (one_longer items item)

same_length : {A B : Type 0} (items : List A) (others : List B) (place : ℕ) → length items ≡ length others → length (remove items place) ≡ length (remove others place)
same_length [] [] zero same = refl
same_length [] [] (suc place) same = refl
same_length [] (other ∷ others) place same = cc
same_length (item ∷ items) [] place same = cc
same_length (item ∷ items) (other ∷ others) zero same = cc
same_length (item ∷ items) (other ∷ others) (suc place) same = let less : length items ≡ length others = cc in ap suc (same_length items others place less)

pub numbers_pushed : {A : Type 0} (objects : List A) (object : A) (numbers : List ℕ) (next : ℕ) → next ≤ last_number → AreNumbers (length objects) numbers next → AreNumbers (length (objects ++ object ∷ [])) (numbers ++ next ∷ []) (behind next)
numbers_pushed objects object numbers next most are = record {
  each = one_longer numbers next ∙ ap suc are.each ∙ sym (one_longer objects object);
  below = each_pushed (IsBelow (behind next)) numbers next (each_weaker (IsBelow next) (IsBelow (behind next)) numbers (λ number is. still_below next number most is) are.below) (itself_below next most);
  differ = λ one other number at_one at_other low. by one other number low (pushed_at numbers next one number at_one) (pushed_at numbers next other number at_other);
}
  where
    -- no number so far is the next one
    fresh : (place number : ℕ) → slice_get numbers place ≡ Some number → next ≡ number → number < last_number → ⊥
    fresh place number at same low = old (each_in (IsBelow next) numbers number are.below (stands numbers place number at))
      where
        old : IsBelow next number → ⊥
        old (inl less) = omega (arith, same)
        old (inr last) = let is = last.0 in omega (arith, is)

    by : (one other number : ℕ) → number < last_number → ((slice_get numbers one ≡ Some number) ⊎ ((one ≡ length numbers) × (next ≡ number))) → ((slice_get numbers other ≡ Some number) ⊎ ((other ≡ length numbers) × (next ≡ number))) → one ≡ other
    by one other number low (inl here) (inl there) = are.differ one other number here there low
    by one other number low (inr here) (inr there) = here.0 ∙ sym there.0
    by one other number low (inl here) (inr there) = absurd (fresh one number here there.1 low)
    by one other number low (inr here) (inl there) = absurd (fresh other number there here.1 low)

pub numbers_removed : {A : Type 0} (objects : List A) (numbers : List ℕ) (next place : ℕ) → AreNumbers (length objects) numbers next → AreNumbers (length (remove objects place)) (remove numbers place) next
numbers_removed objects numbers next place are = record {
  each = same_length numbers objects place are.each;
  below = each_removed (IsBelow next) numbers place are.below;
  differ = λ one other number at_one at_other low.
      was_one place one other (are.differ (was place one) (was place other) number (removed_was numbers place one number at_one) (removed_was numbers place other number at_other) low);
}

pub numbers_kept : (count other : ℕ) (numbers : List ℕ) (next : ℕ) → count ≡ other → AreNumbers count numbers next → AreNumbers other numbers next
numbers_kept count other numbers next same are = subst (λ (count : ℕ). AreNumbers count numbers next) same are
