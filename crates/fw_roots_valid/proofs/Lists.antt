-- Lists that are joined or mapped: what stands in them, where, and how often.
use Rattle.std.proofs.Common.{◌≡◌, ◌∙◌, ◌⊎◌, inl, inr, ℕ, zero, suc, List, [], ◌∷◌, ◌++◌, length, map, Some, slice_get, refl, sym, ap, subst}
use Rattle.fw_times_valid.proofs.Kept.{in_list}
use Rattle.fw_valid.specs.Each.{IsWithoutRepeats}
use Rattle.fw_valid_edits.proofs.Entries.{stands}
use Rattle.fw_zone.specs.Lists.{IsIn}

module _ {A : Type 0} where
  pub in_either : (items others : List A) (item : A) → IsIn item (items ++ others) → IsIn item items ⊎ IsIn item others
  in_either [] others item found = inr found
  in_either (first ∷ items) others item (inl here) = inl (inl here)
  in_either (first ∷ items) others item (inr there) = further (in_either items others item there)
    where
      further : (IsIn item items ⊎ IsIn item others) → IsIn item (first ∷ items) ⊎ IsIn item others
      further (inl found) = inl (inr found)
      further (inr found) = inr found

  pub once_joined : (items others : List A) → IsWithoutRepeats items → IsWithoutRepeats others → ((item : A) → IsIn item items → ¬ (IsIn item others)) → IsWithoutRepeats (items ++ others)
  once_joined [] others once rest apart = rest
  once_joined (first ∷ items) others once rest apart = (absent, once_joined items others once.1 rest (λ item found. apart item (inr found)))
    where
      by : (IsIn first items ⊎ IsIn first others) → ⊥
      by (inl found) = once.0 found
      by (inr found) = apart first (inl refl) found

      absent : ¬ (IsIn first (items ++ others))
      absent found = by (in_either items others first found)

  -- what stood somewhere stands there before others, and the first of these stands behind all
  pub still_at : (items others : List A) (place : ℕ) (item : A) → slice_get items place ≡ Some item → slice_get (items ++ others) place ≡ Some item
  still_at [] others place item at = cc
  still_at (first ∷ items) others zero item at = at
  still_at (first ∷ items) others (suc place) item at = still_at items others place item at

  pub last_at : (items : List A) (item : A) → slice_get (items ++ item ∷ []) (length items) ≡ Some item
  last_at [] item = refl
  last_at (first ∷ items) item = last_at items item

  pub same_item : (one other : A) → Some one ≡ Some other → one ≡ other
  same_item one other is = cc

module _ {A B : Type 0} (of : A → B) where
  -- what stands somewhere in a list that is mapped is given by what stands there
  pub mapped_at : (items : List A) (place : ℕ) (value : B) → slice_get (map of items) place ≡ Some value → (item : A) × (slice_get items place ≡ Some item) × (of item ≡ value)
  mapped_at [] place value at = cc
  mapped_at (first ∷ others) zero value at = (first, refl, same_item (of first) value at)
  mapped_at (first ∷ others) (suc place) value at = mapped_at others place value at

  -- where nothing is given twice, what gives the same stands at one place
  pub one_place : (items : List A) (one other : ℕ) (item also : A) → IsWithoutRepeats (map of items) → slice_get items one ≡ Some item → slice_get items other ≡ Some also → of item ≡ of also → one ≡ other
  one_place [] one other item also once at too same = cc
  one_place (first ∷ others) zero zero item also once at too same = refl
  one_place (first ∷ others) zero (suc other) item also once at too same =
      absurd (once.0 (subst (λ (value : B). IsIn value (map of others)) (sym same ∙ ap of (sym (same_item first item at))) (in_list of others also (stands others other also too))))
  one_place (first ∷ others) (suc one) zero item also once at too same =
      absurd (once.0 (subst (λ (value : B). IsIn value (map of others)) (same ∙ ap of (sym (same_item first also too))) (in_list of others item (stands others one item at))))
  one_place (first ∷ others) (suc one) (suc other) item also once at too same = ap suc (one_place others one other item also once.1 at too same)

  -- what comes behind others is none of them
  pub behind_apart : (items : List A) (item : A) (others : List A) → IsWithoutRepeats (map of (items ++ item ∷ others)) → ¬ (IsIn (of item) (map of items))
  behind_apart [] item others once found = absurd found
  behind_apart (first ∷ items) item others once (inl here) = once.0 (subst (λ (value : B). IsIn value (map of (items ++ item ∷ others))) (sym here) (among items))
    where
      among : (items : List A) → IsIn (of item) (map of (items ++ item ∷ others))
      among [] = inl refl
      among (first ∷ items) = inr (among items)
  behind_apart (first ∷ items) item others once (inr there) = behind_apart items item others once.1 there
