-- Lists with one item more, and with one less.
use Rattle.std.proofs.Common.{◌≡◌, ◌⊎◌, inl, inr, Bool, true, false, if◌then◌else◌, List, [], ◌∷◌, ◌++◌, sym, subst}
use Rattle.fw_answer.specs.Lists.{without}
use Rattle.fw_zone.specs.Lists.{IsIn}
use Rattle.fw_valid.specs.Each.{Each, IsWithoutRepeats}

-- what stands in a list with one item more is that item, or stood there
pub in_more : {A : Type 0} (item new : A) (items : List A) → IsIn item (items ++ new ∷ []) → IsIn item items ⊎ (new ≡ item)
in_more item new [] (inl is) = inr is
in_more item new [] (inr none) = elim none [ ]
in_more item new (first ∷ others) (inl is) = inl (inl is)
in_more item new (first ∷ others) (inr in_others) = further (in_more item new others in_others)
  where
    further : IsIn item others ⊎ (new ≡ item) → IsIn item (first ∷ others) ⊎ (new ≡ item)
    further (inl there) = inl (inr there)
    further (inr is) = inr is

pub each_more : {A : Type 0} (P : A → Type 0) (items : List A) (new : A) → Each P items → P new → Each P (items ++ new ∷ [])
each_more P [] new each also = (also, each)
each_more P (first ∷ others) new each also = (each.0, each_more P others new each.1 also)

pub once_more : {A : Type 0} (items : List A) (new : A) → IsWithoutRepeats items → ¬ (IsIn new items) → IsWithoutRepeats (items ++ new ∷ [])
once_more [] new once apart = (λ none. none, once)
once_more (first ∷ others) new once apart = (not_there, once_more others new once.1 (λ there. apart (inr there)))
  where
    which : IsIn first others ⊎ (new ≡ first) → ⊥
    which (inl there) = once.0 there
    which (inr is) = apart (inl (sym is))

    not_there : ¬ (IsIn first (others ++ new ∷ []))
    not_there there = which (in_more first new others there)

-- what is left of a list without one item
module _ {A : Type 0} (same : A → A → Bool) where
  left_by : (item first : A) (others : List A) (P : List A → Type 0) (b : Bool) → same first item ≡ b → P others → P (first ∷ without same item others)
      → P (if same first item then others else first ∷ without same item others)
  left_by item first others P true is then_left else_left = subst (λ b. P (if b then others else first ∷ without same item others)) (sym is) then_left
  left_by item first others P false is then_left else_left = subst (λ b. P (if b then others else first ∷ without same item others)) (sym is) else_left

  pub each_less : (P : A → Type 0) (items : List A) (item : A) → Each P items → Each P (without same item items)
  each_less P [] item each = each
  each_less P (first ∷ others) item each =
      left_by item first others (Each P) (same first item) (λ i. same first item) each.1 (each.0, each_less P others item each.1)

  pub in_less : (found item : A) (items : List A) → IsIn found (without same item items) → IsIn found items
  in_less found item [] = λ there. there
  in_less found item (first ∷ others) =
      left_by item first others (λ left. IsIn found left → IsIn found (first ∷ others)) (same first item) (λ i. same first item) (λ there. inr there)
      (either (in_less found item others))
    where
      either : (IsIn found (without same item others) → IsIn found others) → IsIn found (first ∷ without same item others) → IsIn found (first ∷ others)
      either further (inl is) = inl is
      either further (inr there) = inr (further there)

  pub once_less : (items : List A) (item : A) → IsWithoutRepeats items → IsWithoutRepeats (without same item items)
  once_less [] item once = once
  once_less (first ∷ others) item once =
      left_by item first others IsWithoutRepeats (same first item) (λ i. same first item) once.1
      (λ there. once.0 (in_less first item others there), once_less others item once.1)
