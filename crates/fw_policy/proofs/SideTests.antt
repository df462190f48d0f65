-- Sides of policies that name zones that there are, the host alone, or every zone alone.
use Rattle.std.proofs.Common.{◌≡◌, ◌≢◌, ◌∙◌, ℕ, ◌==◌, ◌⊎◌, inl, inr, Bool, true, false, not, ◌&&◌, ◌||◌, List, [], ◌∷◌, length, map, Option, None, refl, sym, ap, subst, arith}
use Rattle.std.specs.Bool.{Decides}
use Rattle.std.specs.List.{list_all, list_any}
use Rattle.std.specs.Str.{bytes_eq}
use Rattle.std.proofs.lemmas.Bool.{and_from, and_parts, both_ways, eqb-false, false_from_ne_true, false≢true, not-true, not_from_false, or_cases, or_from, or_left, or_parts, or_right}
use Rattle.std.proofs.lemmas.Bool.Decides.{Decides-like, Decides-or}
use Rattle.std.proofs.lemmas.Slice.Eq.{bytes_eq-Decides}
use Rattle.fw_model.specs.declared.config.Config.{Config}
use Rattle.fw_model.specs.declared.zone.Zone.{Zone}
use Rattle.fw_policy.specs.Sides.{first_unknown, is_known, is_only, is_special, stand_alone}
use Rattle.fw_policy.proofs.Members.{no_place}
use Rattle.fw_valid.specs.Each.{Each}
use Rattle.fw_valid.specs.Names.{any, host, zone_names}
use Rattle.fw_valid.specs.Policies.{IsNamedZone, IsSide}
use Rattle.fw_zone.specs.Lists.{IsIn}

-- a zone has the name
zone_has : (zones : List Zone) (name : List ℕ) → Decides (list_any (λ (zone : Zone). bytes_eq zone.name name) zones) (IsIn name (map (λ (zone : Zone). zone.name) zones))
zone_has [] name = (λ is. absurd (false≢true is), λ found. absurd found)
zone_has (zone ∷ zones) name = Decides-or _ _ (bytes_eq-Decides zone.name name) (zone_has zones name)

pub only : (name : List ℕ) (names : List (List ℕ)) → Decides (is_only name names) (names ≡ name ∷ [])
only name [] = (λ is. absurd (false≢true is), λ is. cc)
only name (first ∷ []) = Decides-like _ (λ is. ap (λ one. one ∷ []) is) (λ is. cc) (bytes_eq-Decides first name)
only name (first ∷ second ∷ names) = (λ is. absurd (false≢true is), λ is. cc)

not_all : {A : Type 0} (test : A → Bool) (items : List A) → (list_any (λ item. not (test item)) items ≡ false → list_all test items ≡ true) × (list_all test items ≡ true → list_any (λ item. not (test item)) items ≡ false)
not_all test [] = (λ is. refl, λ is. refl)
not_all test (item ∷ items) = by (test item) (not_all test items)
  where
    by : (passes : Bool) → (list_any (λ item. not (test item)) items ≡ false → list_all test items ≡ true) × (list_all test items ≡ true → list_any (λ item. not (test item)) items ≡ false)
        → ((not passes || list_any (λ item. not (test item)) items) ≡ false → (passes && list_all test items) ≡ true) × ((passes && list_all test items) ≡ true → (not passes || list_any (λ item. not (test item)) items) ≡ false)
    by true rest = rest
    by false rest = (λ is. cc, λ is. cc)

-- each name means something
pub all_known : (zones : List Zone) (names : List (List ℕ))
    → (first_unknown zones names ≡ None → list_all (is_known zones) names ≡ true) × (list_all (is_known zones) names ≡ true → first_unknown zones names ≡ None)
all_known zones names =
    let place = no_place (λ name. not (is_known zones name)) names in
    let all = not_all (is_known zones) names in
    (λ is. all.0 (place.0 is), λ is. place.1 (all.1 is))

many : (name other : List ℕ) (names : List (List ℕ)) → (length (name ∷ other ∷ names) == 1) ≡ true → ⊥
many name other names one = grind arith

-- of two names and more, none stands for more than a zone where the rule on these is kept
apart : (name other : List ℕ) (names : List (List ℕ)) (special : Bool) → ((length (name ∷ other ∷ names) == 1) || not special) ≡ true → special ≡ false
apart name other names false alone = refl
apart name other names true alone = elim (or_cases (length (name ∷ other ∷ names) == 1) false alone) [
  | inl one ↦ absurd (many name other names one)
  | inr common ↦ absurd (false≢true common)
]

module _ (config : Config) where
  abbrev known : List ℕ → Bool
  known = is_known config.zones

  -- a name that isn't one of the two others is a zone's
  named : (name : List ℕ) → known name ≡ true → is_special name ≡ false → IsNamedZone config name
  named name is common =
      let parts = or_parts (bytes_eq name host) (bytes_eq name any) common in
      record {
        known = elim (or_cases (is_special name) _ is) [
          | inl special ↦ absurd (both_ways (is_special name) common special)
          | inr zone ↦ (zone_has config.zones name).0 zone
        ];
        not_host = λ same. both_ways (bytes_eq name host) parts.0 ((bytes_eq-Decides name host).1 same);
        not_any = λ same. both_ways (bytes_eq name any) parts.1 ((bytes_eq-Decides name any).1 same);
      }

  all_named : (names : List (List ℕ)) → list_all known names ≡ true → list_any is_special names ≡ false → Each (IsNamedZone config) names
  all_named [] is common = tt
  all_named (name ∷ names) is common =
      let parts = and_parts (known name) (list_all known names) is in
      let apart = or_parts (is_special name) (list_any is_special names) common in
      (named name parts.0 apart.0, all_named names parts.1 apart.1)

  common_name : (name : List ℕ) → IsNamedZone config name → is_special name ≡ false
  common_name name zone =
      or_from (bytes_eq name host) (bytes_eq name any)
      (false_from_ne_true _ (λ same. zone.not_host ((bytes_eq-Decides name host).0 same)))
      (false_from_ne_true _ (λ same. zone.not_any ((bytes_eq-Decides name any).0 same)))

  all_common : (names : List (List ℕ)) → Each (IsNamedZone config) names → list_any is_special names ≡ false
  all_common [] zones = refl
  all_common (name ∷ names) zones = or_from (is_special name) (list_any is_special names) (common_name name zones.0) (all_common names zones.1)

  known_from_zones : (names : List (List ℕ)) → Each (IsNamedZone config) names → list_all known names ≡ true
  known_from_zones [] zones = refl
  known_from_zones (name ∷ names) zones =
      and_from (known name) (list_all known names)
      (or_right (is_special name) _ ((zone_has config.zones name).1 zones.0.known)) (known_from_zones names zones.1)

  pub is_side : (names : List (List ℕ)) → list_all known names ≡ true → stand_alone names ≡ true → IsSide config names
  is_side [] is alone = inr (inr tt)
  is_side (name ∷ []) is alone = by (bytes_eq name host) (bytes_eq name any) refl refl
    where
      by : (here every : Bool) → bytes_eq name host ≡ here → bytes_eq name any ≡ every → IsSide config (name ∷ [])
      by true every same same' = inl (ap (λ one. one ∷ []) ((bytes_eq-Decides name host).0 same))
      by false true same same' = inr (inl (ap (λ one. one ∷ []) ((bytes_eq-Decides name any).0 same')))
      by false false same same' = inr (inr (all_named (name ∷ []) is (or_from (is_special name) false (or_from _ _ same same') refl)))
  is_side (name ∷ other ∷ names) is alone =
      inr (inr (all_named (name ∷ other ∷ names) is (apart name other names (list_any is_special (name ∷ other ∷ names)) alone)))

  pub side_known : (names : List (List ℕ)) → IsSide config names → list_all known names ≡ true
  side_known names (inl is) = subst (λ side. list_all known side ≡ true) (sym is) refl
  side_known names (inr (inl is)) = subst (λ side. list_all known side ≡ true) (sym is) refl
  side_known names (inr (inr zones)) = known_from_zones names zones

  pub side_alone : (names : List (List ℕ)) → IsSide config names → stand_alone names ≡ true
  side_alone names (inl is) = subst (λ side. stand_alone side ≡ true) (sym is) refl
  side_alone names (inr (inl is)) = subst (λ side. stand_alone side ≡ true) (sym is) refl
  side_alone names (inr (inr zones)) = or_right _ _ (not_from_false _ (all_common names zones))
