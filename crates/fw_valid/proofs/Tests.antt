-- Tests on names that show what is in a list, and that a list has no repeats.
use Rattle.std.proofs.Common.{◌≡◌, ℕ, zero, suc, ◌⊎◌, inl, inr, Bool, true, false, not, ◌&&◌, ◌||◌, List, [], ◌∷◌, Some, slice_get, IsTrue, refl, sym, ap, subst, ◌∙◌}
use Rattle.std.proofs.lemmas.Bool.{and_parts, both_ways, not-true, or_cases, or_parts, false≢true}
use Rattle.std.proofs.lemmas.Slice.Eq.{bytes_eq-Decides}
use Rattle.std.specs.List.{list_all, list_any}
use Rattle.std.specs.Str.{bytes_eq}
use Rattle.fw_model.specs.declared.zone.Zone.{Zone}
use Rattle.fw_valid.specs.Each.{Each, IsWithoutRepeats}
use Rattle.fw_zone.specs.Bindings.{IsListedAt}
use Rattle.fw_zone.specs.Lists.{IsIn}

abbrev pub is_among : List (List ℕ) → List ℕ → Bool
is_among names name = list_any (λ other. bytes_eq other name) names

pub in_from_test : (names : List (List ℕ)) (name : List ℕ) → is_among names name ≡ true → IsIn name names
in_from_test [] name is = absurd (false≢true is)
in_from_test (first ∷ names) name is = elim (or_cases (bytes_eq first name) (is_among names name) is) [
  | inl here ↦ inl ((bytes_eq-Decides first name).0 here)
  | inr there ↦ inr (in_from_test names name there)
]

pub absent_from_test : (names : List (List ℕ)) (name : List ℕ) → is_among names name ≡ false → ¬ (IsIn name names)
absent_from_test [] name is found = found
absent_from_test (first ∷ names) name is (inl here) = both_ways (bytes_eq first name) (or_parts (bytes_eq first name) (is_among names name) is).0 ((bytes_eq-Decides first name).1 here)
absent_from_test (first ∷ names) name is (inr found) = absent_from_test names name (or_parts (bytes_eq first name) (is_among names name) is).1 found

pub all_in_from_test : (known names : List (List ℕ)) → list_all (is_among known) names ≡ true → Each (λ name. IsIn name known) names
all_in_from_test known [] is = tt
all_in_from_test known (name ∷ names) is =
    let parts = and_parts (is_among known name) (list_all (is_among known) names) is in
    (in_from_test known name parts.0, all_in_from_test known names parts.1)

abbrev pub are_apart : List (List ℕ) → Bool
are_apart [] = true
are_apart (name ∷ names) = not (is_among names name) && are_apart names

pub apart_from_test : (names : List (List ℕ)) → are_apart names ≡ true → IsWithoutRepeats names
apart_from_test [] is = tt
apart_from_test (name ∷ names) is =
    let parts = and_parts (not (is_among names name)) (are_apart names) is in
    (absent_from_test names name (not-true (is_among names name) parts.0), apart_from_test names parts.1)

pub each_from_test : {A : Type 0} (test : A → Bool) (items : List A) → list_all test items ≡ true → Each (λ item. IsTrue (test item)) items
each_from_test test [] is = tt
each_from_test test (item ∷ items) is = let parts = and_parts (test item) (list_all test items) is in (parts.0, each_from_test test items parts.1)

-- where no zone has an entry, none lists one
pub none_listed : {A : Type 0} (of : Zone → List A) (with : Zone → List A → Zone) (zones : List Zone) → Each (λ zone. of zone ≡ []) zones
    → (place : ℕ) (entry : A) → ¬ (IsListedAt of with zones place entry)
none_listed {A} of with zones empty place entry listed = at zones empty place listed.zone listed.at (listed.lists)
  where
    at : (zones : List Zone) → Each (λ zone. of zone ≡ []) zones → (place : ℕ) (zone : Zone) → slice_get zones place ≡ Some zone → ¬ (IsIn entry (of zone))
    at [] empty place zone is = cc
    at (first ∷ zones) empty zero zone is = λ found. let same : first ≡ zone = cc in subst (λ items. IsIn entry items) (ap of (sym same) ∙ empty.0) found
    at (first ∷ zones) empty (suc place) zone is = at zones empty.1 place zone is
