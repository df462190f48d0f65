-- What std's sort by a name shows.
use Rattle.std.proofs.Common.{◌≡◌, ◌≢◌, ◌∙◌, ℕ, Bool, true, false, List, get_or, Ordering, IsSortedBy, Bor, ap, arith}
use Rattle.std.specs.Cmp.{IsStrictWeakOrder}
use Rattle.std.specs.Cmp.Lexicographic.{slice_cmp}
use Rattle.std.specs.Fn.{Called, ComparesAs}
use Rattle.std.specs.Ordering.{is_lt, nat_cmp, ordering_reverse}
use Rattle.std.specs.declared.cmp.Ordering.TheVariants.{Greater}
use Rattle.std.proofs.lemmas.Cmp.{nat_list_cmp_total}
use Rattle.std.proofs.lemmas.List.Sorted.{answers_always, ranks_by, sorted_far}
use denote.Param.Members.{Mut}
use Rattle.lower_all.specs.Ordered.{IsOrdered}

module _ {T : Type 0} (name_of : T → List ℕ) where
  -- one has a lesser name than another
  abbrev pub is_before : T → T → Bool
  is_before one other = is_lt (slice_cmp nat_cmp (name_of one) (name_of other))

  pub name_order : IsStrictWeakOrder is_before
  name_order = ranks_by nat_list_cmp_total name_of

  not_greater : (one other : T) → is_before other one ≡ false → slice_cmp nat_cmp (name_of one) (name_of other) ≢ Greater
  not_greater one other none is =
      let back = nat_list_cmp_total.antisymm (name_of other) (name_of one) ∙ ap ordering_reverse is in
      let less : is_before other one ≡ true = ap is_lt back in
      cc

  -- a list that is sorted by names is in order
  pub ordered_from_sorted : (items : List T) → IsSortedBy is_before items → IsOrdered name_of items
  ordered_from_sorted items sorted one other default before within =
      not_greater (get_or items one default) (get_or items other default) (sorted_far is_before name_order items sorted one other default (omega (arith, before)) within)

  -- from the clause `sorted` of `sort_by`, where each call compares the names of two items
  pub ordered_from_sort_by : {F : Type 0} {g : Mut F (Bor T × (Bor T × Unit {0})) Ordering} {f : F} (items : List T)
      → ((lt : T → T → Bool) → IsStrictWeakOrder lt → ComparesAs g lt f → IsSortedBy lt items)
      → ((f : F) (a : Bor T × (Bor T × Unit {0})) (r : Ordering) (f' : F) → Called g f a r f' → is_lt r ≡ is_before a.0.now a.1.0.now)
      → IsOrdered name_of items
  ordered_from_sort_by {g = g} {f = f} items sorted compares =
      ordered_from_sorted items (sorted is_before name_order (answers_always g (λ a r. is_lt r ≡ is_before a.0.now a.1.0.now) f compares))
