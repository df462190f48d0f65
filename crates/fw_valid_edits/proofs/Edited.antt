-- Lists in which an item is set, to which one comes, or from which one goes: what holds of each, and repeats.
use Rattle.std.proofs.Common.{◌≡◌, ◌≢◌, ℕ, zero, suc, ◌⊎◌, inl, inr, List, [], ◌∷◌, ◌++◌, map, Some, slice_get, slice_set, remove, refl, sym, ap, subst}
use Rattle.fw_valid.specs.Each.{Each, IsWithoutRepeats}
use Rattle.fw_zone.specs.Lists.{IsIn}

module _ {A : Type 0} (P : A → Type 0) where
  pub each_set : (items : List A) (place : ℕ) (item : A) → Each P items → P item → Each P (slice_set items place item)
  each_set [] place item each is = tt
  each_set (first ∷ others) zero item each is = (is, each.1)
  each_set (first ∷ others) (suc place) item each is = (each.0, each_set others place item each.1 is)

  pub each_joined : (items others : List A) → Each P items → Each P others → Each P (items ++ others)
  each_joined [] others each rest = rest
  each_joined (first ∷ items) others each rest = (each.0, each_joined items others each.1 rest)

  pub each_front : (items others : List A) → Each P (items ++ others) → Each P items
  each_front [] others each = tt
  each_front (first ∷ items) others each = (each.0, each_front items others each.1)

  pub each_behind : (items others : List A) → Each P (items ++ others) → Each P others
  each_behind [] others each = each
  each_behind (first ∷ items) others each = each_behind items others each.1

  pub each_pushed : (items : List A) (item : A) → Each P items → P item → Each P (items ++ item ∷ [])
  each_pushed items item each is = each_joined items (item ∷ []) each (is, tt)

  pub each_removed : (items : List A) (place : ℕ) → Each P items → Each P (remove items place)
  each_removed [] zero each = tt
  each_removed [] (suc place) each = tt
  each_removed (first ∷ others) zero each = each.1
  each_removed (first ∷ others) (suc place) each = (each.0, each_removed others place each.1)

  pub each_in : (items : List A) (item : A) → Each P items → IsIn item items → P item
  each_in [] item each found = absurd found
  each_in (first ∷ others) item each (inl here) = subst P here each.0
  each_in (first ∷ others) item each (inr there) = each_in others item each.1 there

  pub all_each : (items : List A) → ((item : A) → IsIn item items → P item) → Each P items
  all_each [] all = tt
  all_each (first ∷ others) all = (all first (inl refl), all_each others (λ item there. all item (inr there)))

-- what holds of each holds of each by what follows from it
pub each_weaker : {A : Type 0} (P Q : A → Type 0) (items : List A) → ((item : A) → P item → Q item) → Each P items → Each Q items
each_weaker P Q [] so each = tt
each_weaker P Q (first ∷ others) so each = (so first each.0, each_weaker P Q others so each.1)

-- and of what a function gives for each
module _ {A B : Type 0} (of : A → B) where
  pub each_of : (P : B → Type 0) (items : List A) → Each P (map of items) → Each (λ item. P (of item)) items
  each_of P [] each = tt
  each_of P (first ∷ others) each = (each.0, each_of P others each.1)

  pub each_mapped : (P : B → Type 0) (items : List A) → Each (λ item. P (of item)) items → Each P (map of items)
  each_mapped P [] each = tt
  each_mapped P (first ∷ others) each = (each.0, each_mapped P others each.1)

  -- the same is given for an item that is set
  pub same_given : (items : List A) (place : ℕ) (old new : A) → slice_get items place ≡ Some old → of new ≡ of old → map of (slice_set items place new) ≡ map of items
  same_given [] place old new at same = refl
  same_given (first ∷ others) zero old new at same = let is : of new ≡ of first = cc in ap (λ value. value ∷ map of others) is
  same_given (first ∷ others) (suc place) old new at same = ap (λ rest. of first ∷ rest) (same_given others place old new at same)

  pub map_pushed : (items : List A) (item : A) → map of (items ++ item ∷ []) ≡ map of items ++ of item ∷ []
  map_pushed [] item = refl
  map_pushed (first ∷ others) item = ap (λ rest. of first ∷ rest) (map_pushed others item)

  pub map_removed : (items : List A) (place : ℕ) → map of (remove items place) ≡ remove (map of items) place
  map_removed [] zero = refl
  map_removed [] (suc place) = refl
  map_removed (first ∷ others) zero = refl
  map_removed (first ∷ others) (suc place) = ap (λ rest. of first ∷ rest) (map_removed others place)

  pub given_at : (items : List A) (place : ℕ) (item : A) → slice_get items place ≡ Some item → slice_get (map of items) place ≡ Some (of item)
  given_at [] place item is = cc
  given_at (first ∷ others) zero item is = cc
  given_at (first ∷ others) (suc place) item is = given_at others place item is

module _ {A : Type 0} where
  pub in_front : (items others : List A) (item : A) → IsIn item items → IsIn item (items ++ others)
  in_front [] others item found = absurd found
  in_front (first ∷ items) others item (inl here) = inl here
  in_front (first ∷ items) others item (inr there) = inr (in_front items others item there)

  pub in_pushed : (items : List A) (item other : A) → IsIn other (items ++ item ∷ []) → IsIn other items ⊎ (item ≡ other)
  in_pushed [] item other (inl here) = inr here
  in_pushed [] item other (inr never) = absurd never
  in_pushed (first ∷ items) item other (inl here) = inl (inl here)
  in_pushed (first ∷ items) item other (inr there) = elim (in_pushed items item other there) [ inl found ↦ inl (inr found) | inr last ↦ inr last ]

  pub in_removed : (items : List A) (place : ℕ) (item : A) → IsIn item (remove items place) → IsIn item items
  in_removed [] zero item found = found
  in_removed [] (suc place) item found = found
  in_removed (first ∷ others) zero item found = inr found
  in_removed (first ∷ others) (suc place) item (inl here) = inl here
  in_removed (first ∷ others) (suc place) item (inr there) = inr (in_removed others place item there)

  -- another item than the one that went is still there
  pub still_in : (items : List A) (place : ℕ) (gone item : A) → slice_get items place ≡ Some gone → gone ≢ item → IsIn item items → IsIn item (remove items place)
  still_in [] place gone item at differs found = absurd found
  still_in (first ∷ others) zero gone item at differs (inl here) = let same : gone ≡ item = cc in absurd (differs same)
  still_in (first ∷ others) zero gone item at differs (inr there) = there
  still_in (first ∷ others) (suc place) gone item at differs (inl here) = inl here
  still_in (first ∷ others) (suc place) gone item at differs (inr there) = inr (still_in others place gone item at differs there)

  pub once_pushed : (items : List A) (item : A) → IsWithoutRepeats items → ¬ (IsIn item items) → IsWithoutRepeats (items ++ item ∷ [])
  once_pushed [] item once absent = ((λ never. absurd never), tt)
  once_pushed (first ∷ items) item once absent = (
    (λ found. elim (in_pushed items item first found) [ inl there ↦ once.0 there | inr same ↦ absent (inl (sym same)) ]),
    once_pushed items item once.1 (λ found. absent (inr found)),
  )

  pub once_removed : (items : List A) (place : ℕ) → IsWithoutRepeats items → IsWithoutRepeats (remove items place)
  once_removed [] zero once = tt
  once_removed [] (suc place) once = tt
  once_removed (first ∷ others) zero once = once.1
  once_removed (first ∷ others) (suc place) once = ((λ found. once.0 (in_removed others place first found)), once_removed others place once.1)
