-- Entries of one zone, by the first zone that lists them.
use Rattle.std.proofs.Common.{◌≡◌, ℕ, zero, suc, ◌+◌, ◌<◌, ◌≤◌, ◌⊎◌, inl, inr, List, [], ◌∷◌, length, Some, slice_get, sym, subst, arith}
use Rattle.std.proofs.lemmas.Bool.{cases_order}
use Rattle.std.proofs.lemmas.Bool.Decides.{Decides-eqb, Decides-like}
use Rattle.std.specs.Bool.{Decides}
use Rattle.std.specs.Prelude.{◌==◌}
use Rattle.fw_broken.proofs.Lists.{all_each, each_in}
use Rattle.fw_model.specs.declared.zone.Zone.{Zone}
use Rattle.fw_valid.specs.Each.{Each}
use Rattle.fw_valid.specs.Valid.{IsInOneZone}
use Rattle.fw_zone.specs.Bindings.{IsFirstListed}
use Rattle.fw_zone.specs.Lists.{IsIn}

below : {A : Type 0} (items : List A) (place : ℕ) (item : A) → slice_get items place ≡ Some item → place < length items
below [] place item is = cc
below (first ∷ others) zero item is = omega arith
below (first ∷ others) (suc place) item is = let less = below others place item is in omega arith

module _ {A : Type 0} (of : Zone → List A) (with : Zone → List A → Zone) (zones : List Zone) where
  -- there is one first zone
  pub first_is_one : (entry : A) (one other : ℕ) → IsFirstListed of with zones one entry → IsFirstListed of with zones other entry → one ≡ other
  first_is_one entry one other first second = elim (cases_order one other) [
    | inl same ↦ same
    | inr (inl before) ↦ absurd (second.first one before first.listed)
    | inr (inr behind) ↦ absurd (first.first other behind second.listed)
  ]

  pub found_first : (entry : A) (first place : ℕ) → IsFirstListed of with zones first entry → Decides (first == place) (IsFirstListed of with zones place entry)
  found_first entry first place is =
      Decides-like _ (λ same. subst (λ spot. IsFirstListed of with zones spot entry) same is) (λ other. first_is_one entry first place is other) (Decides-eqb first place)

  -- the zones before a place are the first that list their entries
  abbrev pub FirstUpTo : ℕ → Type 0
  FirstUpTo upto = (place : ℕ) (zone : Zone) (entry : A) → place < upto → slice_get zones place ≡ Some zone → IsIn entry (of zone) → IsFirstListed of with zones place entry

  pub none_so_far : FirstUpTo 0
  none_so_far place zone entry less = let none_such : ⊥ = omega arith in absurd none_such

  pub one_more : (upto : ℕ) (zone : Zone) → FirstUpTo upto → slice_get zones upto ≡ Some zone → ((entry : A) → IsIn entry (of zone) → IsFirstListed of with zones upto entry) → FirstUpTo (upto + 1)
  one_more upto zone before at so place other entry less is found = by (cases_order place upto)
    where
      by : (place ≡ upto) ⊎ ((place < upto) ⊎ (upto < place)) → IsFirstListed of with zones place entry
      by (inl same) =
          let here = subst (λ spot. slice_get zones spot ≡ Some other) same is in
          let one : other ≡ zone = cc in
          subst (λ spot. IsFirstListed of with zones spot entry) (sym same) (so entry (subst (λ it. IsIn entry (of it)) one found))
      by (inr (inl earlier)) = before place other entry earlier is found
      by (inr (inr later)) = let none_such : ⊥ = omega arith in absurd none_such

  pub all_in_one : (upto : ℕ) → length zones ≤ upto → FirstUpTo upto → IsInOneZone of with zones
  all_in_one upto whole first entry one other here there =
      first_is_one entry one other
      (first one here.zone entry (within one here.zone here.at) here.at here.lists)
      (first other there.zone entry (within other there.zone there.at) there.at there.lists)
    where
      within : (place : ℕ) (zone : Zone) → slice_get zones place ≡ Some zone → place < upto
      within place zone at = let less = below zones place zone at in omega arith

  pub first_here : IsInOneZone of with zones → (place : ℕ) (zone : Zone) → slice_get zones place ≡ Some zone → (entry : A) → IsIn entry (of zone) → IsFirstListed of with zones place entry
  first_here one place zone at entry found = record {
    listed = record { zone = zone; at = at; lists = found };
    first = λ before less listed. by (one entry before place listed (record { zone = zone; at = at; lists = found })) less;
  }
    where
      by : {before : ℕ} → before ≡ place → before < place → ⊥
      by same less = omega arith

  pub each_here : IsInOneZone of with zones → (place : ℕ) (zone : Zone) → slice_get zones place ≡ Some zone → Each (λ entry. IsFirstListed of with zones place entry) (of zone)
  each_here one place zone at = all_each _ (of zone) (λ entry found. first_here one place zone at entry found)

  pub listed_here : (place : ℕ) (zone : Zone) → Each (λ entry. IsFirstListed of with zones place entry) (of zone) → (entry : A) → IsIn entry (of zone) → IsFirstListed of with zones place entry
  listed_here place zone each entry found = each_in _ (of zone) entry each found
