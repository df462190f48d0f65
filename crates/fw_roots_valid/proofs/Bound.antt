-- Interfaces that zones list, and those that none lists.
use Rattle.std.proofs.Common.{◌≡◌, ℕ, inl, inr, Bool, true, not, List, [], ◌∷◌, Option, None, Some, refl, sym, subst}
use Rattle.std.proofs.lemmas.Bool.{both_ways, not-true, or_left, or_right}
use Rattle.std.specs.List.{list_any}
use Rattle.std.specs.Str.{bytes_eq}
use Rattle.fw_answer.proofs.Equality as equality
use Rattle.fw_answer.proofs.Items.{is_in_decides}
use Rattle.fw_model.specs.declared.zone.Zone.{Zone}
use Rattle.fw_root_members.specs.Reloading.{bound_nowhere, interfaces, interfaces_of, is_bound}
use Rattle.fw_times_valid.proofs.Kept.{was_kept}
use Rattle.fw_zone.specs.Lists.{IsIn}
use Rattle.fw_zone_edits.specs.Entries.{lists}
use Rattle.fw_zone_edits.specs.Zones.{Found, zone_named}
use Rattle.fw_zone_edits.specs.declared.entry.Entry.TheVariants as entry

any_passes : {A : Type 0} (test : A → Bool) (items : List A) (item : A) → IsIn item items → test item ≡ true → list_any test items ≡ true
any_passes test [] item found passes = absurd found
any_passes {A} test (first ∷ others) item (inl here) passes = or_left (test first) (list_any test others) (subst (λ (one : A). test one ≡ true) (sym here) passes)
any_passes test (first ∷ others) item (inr there) passes = or_right (test first) (list_any test others) (any_passes test others item there passes)

-- an interface that a zone lists is no interface that none lists
pub not_nowhere : (zones : List Zone) (names : List (List ℕ)) (zone : Zone) (name : List ℕ) → IsIn zone zones → IsIn name zone.interfaces → ¬ (IsIn name (bound_nowhere zones names))
not_nowhere zones names zone name there listed found =
    let kept = was_kept (λ (name : List ℕ). not (is_bound zones name)) names name found in
    let bound = any_passes (lists (entry.Interface name)) zones zone there ((is_in_decides bytes_eq equality.texts name zone.interfaces).1 listed) in
    both_ways (is_bound zones name) (not-true (is_bound zones name) kept.1) bound

-- the zone that has the interfaces of a name
pub holder : (zones : List Zone) (name entry : List ℕ) → IsIn entry (interfaces_of zones name) → (found : Found) × (zone_named zones name ≡ Some found) × IsIn entry found.zone.interfaces
holder zones name entry listed = by (zone_named zones name) refl listed
  where
    by : (named : Option Found) → zone_named zones name ≡ named → IsIn entry (interfaces named) → (found : Found) × (zone_named zones name ≡ Some found) × IsIn entry found.zone.interfaces
    by None is never = absurd never
    by (Some found) is listed = (found, is, listed)
