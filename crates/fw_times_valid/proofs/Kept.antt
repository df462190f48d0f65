-- Items that are kept of a list, and items in order.
use Rattle.std.proofs.Common.{◌≡◌, ◌∙◌, ◌⊎◌, inl, inr, Bool, true, false, cond, if◌then◌else◌, List, [], ◌∷◌, map, refl, sym, ap, subst}
use Rattle.std.specs.List.{filter}
use Rattle.fw_order.specs.Order.{in_order, placed}
use Rattle.fw_valid.specs.Each.{IsWithoutRepeats}
use Rattle.fw_zone.specs.Lists.{IsIn}

module _ {A : Type 0} (test : A → Bool) where
  -- what is kept was there, and passes
  pub was_kept : (items : List A) (item : A) → IsIn item (filter test items) → IsIn item items × (test item ≡ true)
  was_kept [] item found = absurd found
  was_kept (first ∷ others) item found = by (test first) refl (λ there. was_kept others item there) found
    where
      further : IsIn item others × (test item ≡ true) → IsIn item (first ∷ others) × (test item ≡ true)
      further (there, passes) = (inr there, passes)

      by : (passes : Bool) → test first ≡ passes → (IsIn item (filter test others) → IsIn item others × (test item ≡ true)) → IsIn item (cond passes (first ∷ filter test others) (filter test others)) → IsIn item (first ∷ others) × (test item ≡ true)
      by true is rest (inl here) = (inl here, subst (λ (one : A). test one ≡ true) here is)
      by true is rest (inr there) = further (rest there)
      by false is rest there = further (rest there)

-- a function gives what it gives of an item among what it gives of all
pub in_list : {A B : Type 0} (of : A → B) (items : List A) (item : A) → IsIn item items → IsIn (of item) (map of items)
in_list of [] item found = absurd found
in_list of (first ∷ others) item (inl here) = inl (ap of here)
in_list of (first ∷ others) item (inr there) = inr (in_list of others item there)

-- items of which it gives the same are one, where it gives nothing twice
pub one_item : {A B : Type 0} (of : A → B) (items : List A) (one other : A) → IsWithoutRepeats (map of items) → IsIn one items → IsIn other items → of one ≡ of other → one ≡ other
one_item of [] one other once found also same = absurd found
one_item of (first ∷ others) one other once (inl here) (inl too) same = sym here ∙ too
one_item {A} {B} of (first ∷ others) one other once (inl here) (inr there) same =
    absurd (once.0 (subst (λ (value : B). IsIn value (map of others)) (sym same ∙ ap of (sym here)) (in_list of others other there)))
one_item {A} {B} of (first ∷ others) one other once (inr there) (inl here) same =
    absurd (once.0 (subst (λ (value : B). IsIn value (map of others)) (same ∙ ap of (sym here)) (in_list of others one there)))
one_item of (first ∷ others) one other once (inr there) (inr too) same = one_item of others one other once.1 there too same

-- what stands in a list in order stood in it
module _ {A : Type 0} (is_before : A → A → Bool) where
  in_placed : (new : A) (items : List A) (item : A) → IsIn item (placed is_before new items) → (new ≡ item) ⊎ IsIn item items
  in_placed new [] item (inl here) = inl here
  in_placed new [] item (inr never) = absurd never
  in_placed new (first ∷ others) item found = by (is_before first new) (λ there. in_placed new others item there) found
    where
      further : ((new ≡ item) ⊎ IsIn item others) → (new ≡ item) ⊎ IsIn item (first ∷ others)
      further (inl is) = inl is
      further (inr there) = inr (inr there)

      by : (before : Bool) → (IsIn item (placed is_before new others) → (new ≡ item) ⊎ IsIn item others) → IsIn item (if before then first ∷ placed is_before new others else new ∷ first ∷ others) → (new ≡ item) ⊎ IsIn item (first ∷ others)
      by true rest (inl here) = inr (inl here)
      by true rest (inr there) = further (rest there)
      by false rest (inl here) = inl here
      by false rest (inr there) = inr there

  pub was_in_order : (items : List A) (item : A) → IsIn item (in_order is_before items) → IsIn item items
  was_in_order [] item found = found
  was_in_order (first ∷ others) item found = by (λ there. was_in_order others item there) (in_placed first (in_order is_before others) item found)
    where
      by : (IsIn item (in_order is_before others) → IsIn item others) → ((first ≡ item) ⊎ IsIn item (in_order is_before others)) → IsIn item (first ∷ others)
      by rest (inl here) = inl here
      by rest (inr there) = inr (rest there)
