-- Names that are found, and names that aren't there.
use Rattle.std.proofs.Common.{◌≡◌, inl, inr, ℕ, zero, suc, ◌+◌, ◌<◌, Bool, true, false, not, ◌||◌, cond, List, [], ◌∷◌, length, map, Option, None, Some, is_some, position, slice_get, refl, ap, subst, arith}
use Rattle.std.proofs.lemmas.Bool.{both_ways, false≢true, lt-ltb, or_left, or_right}
use Rattle.std.proofs.lemmas.Slice.Eq.{bytes_eq-Decides}
use Rattle.std.specs.List.{list_any, position_or_len, prefix_len}
use Rattle.std.specs.Option.{option_and_then}
use Rattle.std.specs.Str.{bytes_eq}
use Rattle.fw_model.specs.declared.zone.Zone.{Zone}
use Rattle.fw_zone.specs.Lists.{IsIn}
use Rattle.fw_zone_edits.specs.Zones.{Found, zone_named}

any_named : {A : Type 0} (name_of : A → List ℕ) (items : List A) (name : List ℕ) → IsIn name (map name_of items) → list_any (λ item. bytes_eq (name_of item) name) items ≡ true
any_named name_of [] name found = absurd found
any_named name_of (item ∷ items) name (inl here) = or_left (bytes_eq (name_of item) name) (list_any (λ item. bytes_eq (name_of item) name) items) ((bytes_eq-Decides (name_of item) name).1 here)
any_named name_of (item ∷ items) name (inr there) = or_right (bytes_eq (name_of item) name) (list_any (λ item. bytes_eq (name_of item) name) items) (any_named name_of items name there)

-- where some item passes a test, the first that does stands within the list
prefix_within : {A : Type 0} (test : A → Bool) (items : List A) → list_any test items ≡ true → prefix_len (λ item. not (test item)) items < length items
prefix_within test [] is = absurd (false≢true is)
prefix_within test (item ∷ items) is = by (test item) is (λ rest. prefix_within test items rest)
  where
    by : (here : Bool) → (here || list_any test items) ≡ true → (list_any test items ≡ true → prefix_len (λ item. not (test item)) items < length items) → cond (not here) (1 + prefix_len (λ item. not (test item)) items) 0 < suc (length items)
    by true is rest = omega arith
    by false is rest = let less = rest is in omega arith

pub position_found : {A : Type 0} (test : A → Bool) (items : List A) → list_any test items ≡ true → position test items ≡ Some (position_or_len test items)
position_found test items is = rw (lt-ltb (position_or_len test items) (length items) (prefix_within test items is)) refl

stands_within : {A : Type 0} (items : List A) (place : ℕ) → place < length items → (item : A) × (slice_get items place ≡ Some item)
stands_within [] place less = absurd (omega arith)
stands_within (first ∷ others) zero less = (first, refl)
stands_within (first ∷ others) (suc place) less = let fewer : place < length others = omega arith in stands_within others place fewer

zone_found : (zones : List Zone) (name : List ℕ) → IsIn name (map (λ (zone : Zone). zone.name) zones) → is_some (zone_named zones name) ≡ true
zone_found zones name there =
    let any = any_named (λ (zone : Zone). zone.name) zones name there in
    let stood = stands_within zones (position_or_len (λ (zone : Zone). bytes_eq zone.name name) zones) (prefix_within (λ (zone : Zone). bytes_eq zone.name name) zones any) in
    by (position (λ (zone : Zone). bytes_eq zone.name name) zones) (position_found (λ (zone : Zone). bytes_eq zone.name name) zones any) stood
  where
    inside : (place : ℕ) (found : Option Zone) (zone : Zone) → found ≡ Some zone → is_some {T = Found} (option_and_then (λ zone. Some (record { place = place; zone = zone })) found) ≡ true
    inside place None zone is = cc
    inside place (Some other) zone is = refl

    by : (place : Option ℕ) → place ≡ Some (position_or_len (λ (zone : Zone). bytes_eq zone.name name) zones)
        → ((zone : Zone) × (slice_get zones (position_or_len (λ (zone : Zone). bytes_eq zone.name name) zones) ≡ Some zone))
        → is_some {T = Found} (option_and_then (λ place. option_and_then (λ zone. Some (record { place = place; zone = zone })) (slice_get zones place)) place) ≡ true
    by None is stood = cc
    by (Some place) is stood =
        let same : position_or_len (λ (zone : Zone). bytes_eq zone.name name) zones ≡ place = cc in
        inside place (slice_get zones place) stood.0 (subst (λ (place : ℕ). slice_get zones place ≡ Some stood.0) same stood.1)

pub no_zone : (zones : List Zone) (name : List ℕ) → is_some (zone_named zones name) ≡ false → ¬ (IsIn name (map (λ (zone : Zone). zone.name) zones))
no_zone zones name none there = both_ways (is_some (zone_named zones name)) none (zone_found zones name there)

pub none_named : {A : Type 0} (name_of : A → List ℕ) (items : List A) (name : List ℕ) → is_some (position (λ item. bytes_eq (name_of item) name) items) ≡ false → ¬ (IsIn name (map name_of items))
none_named name_of items name none there =
    both_ways (is_some (position (λ item. bytes_eq (name_of item) name) items)) none
    (ap (λ place. is_some place) (position_found (λ item. bytes_eq (name_of item) name) items (any_named name_of items name there)))
