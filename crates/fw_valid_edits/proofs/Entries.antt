-- Entries stay in one zone.
use Rattle.std.proofs.Common.{◌≡◌, ◌≢◌, ℕ, zero, suc, ◌⊎◌, inl, inr, List, [], ◌∷◌, ◌++◌, length, Some, slice_get, slice_set, remove, refl, sym, ap, subst, ◌∙◌}
use Rattle.fw_model.specs.declared.zone.Zone.{Zone}
use Rattle.fw_valid.specs.Valid.{IsInOneZone}
use Rattle.fw_valid_edits.proofs.Edited.{all_each, each_in}
use Rattle.fw_valid_edits.specs.Fit.{AreFree}
use Rattle.fw_zone.specs.Bindings.{IsListedAt}
use Rattle.fw_zone.specs.Lists.{IsIn}

-- whether two places are one
same_place : (one other : ℕ) → (one ≡ other) ⊎ (one ≢ other)
same_place zero zero = inl refl
same_place zero (suc other) = inr (λ same. cc)
same_place (suc one) zero = inr (λ same. cc)
same_place (suc one) (suc other) = elim (same_place one other) [ inl same ↦ inl (ap suc same) | inr differs ↦ inr (λ same. differs cc) ]

module _ {A : Type 0} where
  -- what stands at the place that was set, and at another
  set_here : (items : List A) (place : ℕ) (old new item : A) → slice_get items place ≡ Some old → slice_get (slice_set items place new) place ≡ Some item → new ≡ item
  set_here [] place old new item at is = cc
  set_here (first ∷ others) zero old new item at is = cc
  set_here (first ∷ others) (suc place) old new item at is = set_here others place old new item at is

  set_elsewhere : (items : List A) (place other : ℕ) (new item : A) → other ≢ place → slice_get (slice_set items place new) other ≡ Some item → slice_get items other ≡ Some item
  set_elsewhere [] place other new item differs is = cc
  set_elsewhere (first ∷ others) zero zero new item differs is = absurd (differs refl)
  set_elsewhere (first ∷ others) zero (suc other) new item differs is = is
  set_elsewhere (first ∷ others) (suc place) zero new item differs is = is
  set_elsewhere (first ∷ others) (suc place) (suc other) new item differs is = set_elsewhere others place other new item (λ same. differs (ap suc same)) is

  pub stands : (items : List A) (place : ℕ) (item : A) → slice_get items place ≡ Some item → IsIn item items
  stands [] place item is = cc
  stands (first ∷ others) zero item is = inl cc
  stands (first ∷ others) (suc place) item is = inr (stands others place item is)

  -- what stands at another place is still there
  pub in_others : (items : List A) (place other : ℕ) (item : A) → other ≢ place → slice_get items other ≡ Some item → IsIn item (remove items place)
  in_others [] place other item differs is = cc
  in_others (first ∷ others) zero zero item differs is = absurd (differs refl)
  in_others (first ∷ others) zero (suc other) item differs is = stands others other item is
  in_others (first ∷ others) (suc place) zero item differs is = inl cc
  in_others (first ∷ others) (suc place) (suc other) item differs is = inr (in_others others place other item (λ same. differs (ap suc same)) is)

  -- what stands somewhere in a list to which an item came
  pub pushed_at : (items : List A) (new : A) (place : ℕ) (item : A) → slice_get (items ++ new ∷ []) place ≡ Some item → (slice_get items place ≡ Some item) ⊎ ((place ≡ length items) × (new ≡ item))
  pushed_at [] new zero item is = inr (refl, cc)
  pushed_at [] new (suc place) item is = cc
  pushed_at (first ∷ others) new zero item is = inl is
  pushed_at (first ∷ others) new (suc place) item is = elim (pushed_at others new place item is) [ inl found ↦ inl found | inr (same, last) ↦ inr (ap suc same, last) ]

-- the place that a place was, before the one at a place went
abbrev pub was : (gone place : ℕ) → ℕ
was zero place = suc place
was (suc gone) zero = zero
was (suc gone) (suc place) = suc (was gone place)

pub was_one : (gone one other : ℕ) → was gone one ≡ was gone other → one ≡ other
was_one zero one other same = cc
was_one (suc gone) zero zero same = refl
was_one (suc gone) zero (suc other) same = cc
was_one (suc gone) (suc one) zero same = cc
was_one (suc gone) (suc one) (suc other) same = let inner : was gone one ≡ was gone other = cc in ap suc (was_one gone one other inner)

pub removed_was : {A : Type 0} (items : List A) (gone place : ℕ) (item : A) → slice_get (remove items gone) place ≡ Some item → slice_get items (was gone place) ≡ Some item
removed_was [] zero place item is = cc
removed_was [] (suc gone) place item is = cc
removed_was (first ∷ others) zero place item is = is
removed_was (first ∷ others) (suc gone) zero item is = is
removed_was (first ∷ others) (suc gone) (suc place) item is = removed_was others gone place item is

-- what is in a list stands somewhere
stood : {A : Type 0} (items : List A) (item : A) → IsIn item items → (place : ℕ) × (slice_get items place ≡ Some item)
stood [] item found = absurd found
stood (first ∷ others) item (inl here) = (zero, ap Some here)
stood (first ∷ others) item (inr found) = let there = stood others item found in (suc there.0, there.1)

-- what is left stood at another place
left_at : {A : Type 0} (items : List A) (gone : ℕ) (item : A) → IsIn item (remove items gone) → (other : ℕ) × (other ≢ gone) × (slice_get items other ≡ Some item)
left_at [] zero item found = absurd found
left_at [] (suc gone) item found = absurd found
left_at (first ∷ others) zero item found = let there = stood others item found in (suc there.0, (λ same. cc), there.1)
left_at (first ∷ others) (suc gone) item (inl here) = (zero, (λ same. cc), ap Some here)
left_at (first ∷ others) (suc gone) item (inr found) =
    let there = left_at others gone item found in
    (suc there.0, (λ same. there.1 cc), there.2)

module _ {A : Type 0} (of : Zone → List A) (with : Zone → List A → Zone) where
  -- no other zone lists an entry of a zone
  pub free_beside : (zones : List Zone) (place : ℕ) (zone : Zone) → IsInOneZone of with zones → slice_get zones place ≡ Some zone → AreFree of (remove zones place) zone
  free_beside zones place zone single at entry listed = all_each (λ (other : Zone). ¬ (IsIn entry (of other))) (remove zones place) (λ other left found.
      let there = left_at zones place other left in
      there.1 (single entry there.0 place (record { zone = other; at = there.2; lists = found }) (record { zone = zone; at = at; lists = listed })))

  pub one_zone_set : (zones : List Zone) (place : ℕ) (old new : Zone) → IsInOneZone of with zones → slice_get zones place ≡ Some old → AreFree of (remove zones place) new → IsInOneZone of with (slice_set zones place new)
  one_zone_set zones place old new single at free entry one other first second = by (same_place one place) (same_place other place)
    where
      before : (spot : ℕ) → spot ≢ place → IsListedAt of with (slice_set zones place new) spot entry → IsListedAt of with zones spot entry
      before spot differs listed = record { zone = listed.zone; at = set_elsewhere zones place spot new listed.zone differs listed.at; lists = listed.lists }

      lists_new : (spot : ℕ) → spot ≡ place → IsListedAt of with (slice_set zones place new) spot entry → IsIn entry (of new)
      lists_new spot same listed =
          let here = subst (λ (where_at : ℕ). slice_get (slice_set zones place new) where_at ≡ Some listed.zone) same listed.at in
          subst (λ (zone : Zone). IsIn entry (of zone)) (sym (set_here zones place old new listed.zone at here)) listed.lists

      apart : (here there : ℕ) → here ≡ place → there ≢ place → IsListedAt of with (slice_set zones place new) here entry → IsListedAt of with (slice_set zones place new) there entry → ⊥
      apart here there same differs mine listed =
          let other_one = before there differs listed in
          each_in (λ (zone : Zone). ¬ (IsIn entry (of zone))) (remove zones place) other_one.zone (free entry (lists_new here same mine))
          (in_others zones place there other_one.zone differs other_one.at) other_one.lists

      by : ((one ≡ place) ⊎ (one ≢ place)) → ((other ≡ place) ⊎ (other ≢ place)) → one ≡ other
      by (inl here) (inl too) = here ∙ sym too
      by (inl here) (inr not_here) = absurd (apart one other here not_here first second)
      by (inr not_here) (inl here) = absurd (apart other one here not_here second first)
      by (inr not_here) (inr nor_here) = single entry one other (before one not_here first) (before other nor_here second)

  pub one_zone_pushed : (zones : List Zone) (new : Zone) → IsInOneZone of with zones → AreFree of zones new → IsInOneZone of with (zones ++ new ∷ [])
  one_zone_pushed zones new single free entry one other first second = by (pushed_at zones new one first.zone first.at) (pushed_at zones new other second.zone second.at)
    where
      apart : (there : ℕ) (mine zone : Zone) → new ≡ mine → IsIn entry (of mine) → slice_get zones there ≡ Some zone → IsIn entry (of zone) → ⊥
      apart there mine zone same lists at found =
          each_in (λ (zone : Zone). ¬ (IsIn entry (of zone))) zones zone (free entry (subst (λ (zone : Zone). IsIn entry (of zone)) (sym same) lists)) (stands zones there zone at) found

      by : ((slice_get zones one ≡ Some first.zone) ⊎ ((one ≡ length zones) × (new ≡ first.zone))) → ((slice_get zones other ≡ Some second.zone) ⊎ ((other ≡ length zones) × (new ≡ second.zone))) → one ≡ other
      by (inl here) (inl there) =
          single entry one other (record { zone = first.zone; at = here; lists = first.lists }) (record { zone = second.zone; at = there; lists = second.lists })
      by (inr here) (inr there) = here.0 ∙ sym there.0
      by (inl here) (inr there) = absurd (apart one second.zone first.zone there.1 second.lists here first.lists)
      by (inr here) (inl there) = absurd (apart other first.zone second.zone here.1 first.lists there second.lists)

  pub one_zone_removed : (zones : List Zone) (gone : ℕ) → IsInOneZone of with zones → IsInOneZone of with (remove zones gone)
  one_zone_removed zones gone single entry one other first second =
      was_one gone one other (single entry (was gone one) (was gone other)
      (record { zone = first.zone; at = removed_was zones gone one first.zone first.at; lists = first.lists })
      (record { zone = second.zone; at = removed_was zones gone other second.zone second.at; lists = second.lists }))
