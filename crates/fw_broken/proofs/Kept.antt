-- As many items are kept as there are, where each is kept once, exactly where none is there twice.
use Rattle.std.proofs.Common.{◌≡◌, ◌∙◌, ◌⊎◌, ◌+◌, ◌≤◌, nat_eq, inl, inr, List, [], ◌∷◌, ◌++◌, length, length-append, refl, sym, ap, subst, arith}
use Rattle.std.proofs.lemmas.Bool.Decides.{Decides-eqb}
use Rattle.std.specs.Bool.{Decides}
use Rattle.fw_ipset.specs.Once.{IsKeptOnce}
use Rattle.fw_ipset.specs.Once.IsKeptOnce.{first, nothing, repeated}
use Rattle.fw_valid.specs.Each.{IsWithoutRepeats}
use Rattle.fw_zone.specs.Lists.{IsIn}

module _ {A : Type 0} where
  in_front : (xs ys : List A) (item : A) → IsIn item xs → IsIn item (xs ++ ys)
  in_front [] ys item found = absurd found
  in_front (x ∷ xs) ys item (inl here) = inl here
  in_front (x ∷ xs) ys item (inr found) = inr (in_front xs ys item found)

  at_end : (xs : List A) (item : A) → IsIn item (xs ++ item ∷ [])
  at_end [] item = inl refl
  at_end (x ∷ xs) item = inr (at_end xs item)

  in_more : (xs : List A) (last item : A) → IsIn item (xs ++ last ∷ []) → IsIn item xs ⊎ (last ≡ item)
  in_more [] last item (inl here) = inr here
  in_more [] last item (inr found) = absurd found
  in_more (x ∷ xs) last item (inl here) = inl (inl here)
  in_more (x ∷ xs) last item (inr found) = elim (in_more xs last item found) [ inl before ↦ inl (inr before) | inr here ↦ inr here ]

  front_once : (xs : List A) (last : A) → IsWithoutRepeats (xs ++ last ∷ []) → IsWithoutRepeats xs
  front_once [] last once = tt
  front_once (x ∷ xs) last once = ((λ found. once.0 (in_front xs (last ∷ []) x found)), front_once xs last once.1)

  not_before : (xs : List A) (last : A) → IsWithoutRepeats (xs ++ last ∷ []) → ¬ (IsIn last xs)
  not_before [] last once found = found
  not_before (x ∷ xs) last once (inl here) = once.0 (subst (λ one. IsIn one (xs ++ last ∷ [])) (sym here) (at_end xs last))
  not_before (x ∷ xs) last once (inr found) = not_before xs last once.1 found

  once_behind : (xs : List A) (last : A) → IsWithoutRepeats xs → ¬ (IsIn last xs) → IsWithoutRepeats (xs ++ last ∷ [])
  once_behind [] last once absent = ((λ never. absurd never), tt)
  once_behind (x ∷ xs) last once absent = (
    (λ found. elim (in_more xs last x found) [ inl before ↦ once.0 before | inr here ↦ absent (inl (sym here)) ]),
    once_behind xs last once.1 (λ found. absent (inr found)),
  )

  no_more_kept : (items kept : List A) → IsKeptOnce items kept → length kept ≤ length items
  no_more_kept items kept nothing = grind arith
  no_more_kept items kept (first {items = others} {kept = so_far} item once new) =
      let fewer : length so_far ≤ length others = no_more_kept others so_far once in
      let one : length (others ++ item ∷ []) ≡ length others + 1 = length-append others (item ∷ []) in
      let other : length (so_far ++ item ∷ []) ≡ length so_far + 1 = length-append so_far (item ∷ []) in
      grind arith
  no_more_kept items kept (repeated {items = others} {kept = so_far} item once old) =
      let fewer : length so_far ≤ length others = no_more_kept others so_far once in
      let one : length (others ++ item ∷ []) ≡ length others + 1 = length-append others (item ∷ []) in
      grind arith

  all_kept : (items kept : List A) → IsKeptOnce items kept → IsWithoutRepeats items → length kept ≡ length items
  all_kept items kept nothing without = refl
  all_kept items kept (first {items = others} {kept = so_far} item once new) without =
      length-append so_far (item ∷ []) ∙ ap (λ count. count + 1) (all_kept others so_far once (front_once others item without)) ∙ sym (length-append others (item ∷ []))
  all_kept items kept (repeated {items = others} {kept = so_far} item once old) without = absurd (not_before others item without old)

  no_repeats : (items kept : List A) → IsKeptOnce items kept → length kept ≡ length items → IsWithoutRepeats items
  no_repeats items kept nothing same = tt
  no_repeats items kept (first {items = others} {kept = so_far} item once new) same =
      let one : length (others ++ item ∷ []) ≡ length others + 1 = length-append others (item ∷ []) in
      let other : length (so_far ++ item ∷ []) ≡ length so_far + 1 = length-append so_far (item ∷ []) in
      let before : length so_far ≡ length others = grind arith in
      once_behind others item (no_repeats others so_far once before) new
  no_repeats items kept (repeated {items = others} {kept = so_far} item once old) same =
      let fewer : length so_far ≤ length others = no_more_kept others so_far once in
      let one : length (others ++ item ∷ []) ≡ length others + 1 = length-append others (item ∷ []) in
      absurd (grind arith)

  -- the same of what was counted
  pub as_many_kept : (items listed kept counted others : List A) → IsKeptOnce listed kept → listed ≡ items → counted ≡ kept → others ≡ items
      → Decides (nat_eq (length counted) (length others)) (IsWithoutRepeats items)
  as_many_kept items listed kept counted others once from one other =
      let same : IsKeptOnce items kept = subst (λ (list : List A). IsKeptOnce list kept) from once in
      let equal : Decides (nat_eq (length counted) (length others)) (length counted ≡ length others) = Decides-eqb (length counted) (length others) in (
        (λ is. no_repeats items kept same (sym (ap length one) ∙ equal.0 is ∙ ap length other)),
        (λ without. equal.1 (ap length one ∙ all_kept items kept same without ∙ sym (ap length other))),
      )
