-- What holds of the items that pass a test.
use Rattle.std.proofs.Common.{◌≡◌, ◌⊎◌, inl, inr, Bool, true, false, cond, List, [], ◌∷◌, map, refl}
use Rattle.std.specs.List.{filter}
use Rattle.fw_valid.specs.Each.{Each, IsWithoutRepeats}
use Rattle.fw_zone.specs.Lists.{IsIn}

module _ {A : Type 0} where
  -- what holds of each item holds, in another way, of each that passes
  one_passed : (P Q : A → Type 0) (test : A → Bool) (item : A) (others : List A) (passes : Bool) → test item ≡ passes → (test item ≡ true → P item → Q item) → P item → Each Q others
      → Each Q (cond passes (item ∷ others) others)
  one_passed P Q test item others true is goes holds rest = (goes is holds, rest)
  one_passed P Q test item others false is goes holds rest = rest

  pub each_passed : (P Q : A → Type 0) (test : A → Bool) (items : List A) → ((item : A) → test item ≡ true → P item → Q item) → Each P items → Each Q (filter test items)
  each_passed P Q test [] goes each = tt
  each_passed P Q test (item ∷ items) goes (first, rest) =
      one_passed P Q test item (filter test items) (test item) refl (goes item) first (each_passed P Q test items goes rest)

  -- what passes was there
  one_was_there : {B : Type 0} (of : A → B) (item : A) (passed items : List A) (found : B) (passes : Bool) → (IsIn found (map of passed) → IsIn found (map of items))
      → IsIn found (map of (cond passes (item ∷ passed) passed)) → (of item ≡ found) ⊎ IsIn found (map of items)
  one_was_there of item passed items found true goes (inl is) = inl is
  one_was_there of item passed items found true goes (inr behind) = inr (goes behind)
  one_was_there of item passed items found false goes behind = inr (goes behind)

  was_there : {B : Type 0} (of : A → B) (test : A → Bool) (items : List A) (found : B) → IsIn found (map of (filter test items)) → IsIn found (map of items)
  was_there of test [] found there = there
  was_there of test (item ∷ items) found there = one_was_there of item (filter test items) items found (test item) (was_there of test items found) there

  one_once : {B : Type 0} (of : A → B) (item : A) (passed : List A) (passes : Bool) → ¬ (IsIn (of item) (map of passed)) → IsWithoutRepeats (map of passed)
      → IsWithoutRepeats (map of (cond passes (item ∷ passed) passed))
  one_once of item passed true first rest = (first, rest)
  one_once of item passed false first rest = rest

  pub once_passed : {B : Type 0} (of : A → B) (test : A → Bool) (items : List A) → IsWithoutRepeats (map of items) → IsWithoutRepeats (map of (filter test items))
  once_passed of test [] once = tt
  once_passed of test (item ∷ items) (first, rest) =
      one_once of item (filter test items) (test item) (λ there. first (was_there of test items (of item) there)) (once_passed of test items rest)
