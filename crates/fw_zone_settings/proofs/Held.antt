-- Timers that go on are of settings that are there.
use Rattle.std.proofs.Common.{◌≡◌, ℕ, zero, suc, ◌≤◌, ◌⊎◌, inl, inr, Bool, true, false, not, ◌||◌, cond, List, [], ◌∷◌, map, Some, slice_get, slice_set, refl, sym, ap, ◌∙◌, rules}
use Rattle.std.specs.List.{filter}
use Rattle.std.specs.Str.{bytes_eq}
use Rattle.std.proofs.lemmas.Slice.Eq.{bytes_eq-Decides}
use Rattle.fw_model.specs.declared.config.Config.{Config}
use Rattle.fw_model.specs.declared.setting.Timed.{Timed}
use Rattle.fw_model.specs.declared.zone.Zone.{Zone}
use Rattle.fw_settings.specs.Valid.{AreTimers, IsHeld, last_deadline, subject}
use Rattle.fw_valid.specs.Each.{Each, IsWithoutRepeats}
use Rattle.fw_zone.specs.Lists.{IsIn}
use Rattle.fw_zone_edits.proofs.Plain.{has_decides}
use Rattle.fw_zone_edits.specs.Settings.{has}
use Rattle.fw_zone_settings.specs.Timers.{goes_on, going_on}

module _ {A : Type 0} where
  -- what holds of each item holds, in another way, of each that passes a test
  one_passed : (P Q : A → Type 0) (test : A → Bool) (item : A) (others : List A) (passes : Bool) → test item ≡ passes → (test item ≡ true → P item → Q item) → P item → Each Q others
      → Each Q (cond passes (item ∷ others) others)
  one_passed P Q test item others true is goes holds rest = (goes is holds, rest)
  one_passed P Q test item others false is goes holds rest = rest

  each_passed : (P Q : A → Type 0) (test : A → Bool) (items : List A) → ((item : A) → test item ≡ true → P item → Q item) → Each P items → Each Q (filter test items)
  each_passed P Q test [] goes each = tt
  each_passed P Q test (item ∷ items) goes (first, rest) =
      one_passed P Q test item (filter test items) (test item) refl (goes item) first (each_passed P Q test items goes rest)

  -- what passes was there
  one_was_there : {B : Type 0} (of : A → B) (item : A) (passed items : List A) (found : B) (passes : Bool) → (IsIn found (map of passed) → IsIn found (map of items))
      → IsIn found (map of (cond passes (item ∷ passed) passed)) → (of item ≡ found) ⊎ IsIn found (map of items)
  one_was_there of item passed items found true goes (inl is) = inl is
  one_was_there of item passed items found true goes (inr behind) = inr (goes behind)
  one_was_there of item passed items found false goes behind = inr (goes behind)

  was_there : {B : Type 0} (of : A → B) (test : A → Bool) (items : List A) (found : B) → IsIn found (map of (filter test items)) → IsIn found (map of items)
  was_there of test [] found there = there
  was_there of test (item ∷ items) found there = one_was_there of item (filter test items) items found (test item) (was_there of test items found) there

  one_once : {B : Type 0} (of : A → B) (item : A) (passed : List A) (passes : Bool) → ¬ (IsIn (of item) (map of passed)) → IsWithoutRepeats (map of passed)
      → IsWithoutRepeats (map of (cond passes (item ∷ passed) passed))
  one_once of item passed true first rest = (first, rest)
  one_once of item passed false first rest = rest

  once_passed : {B : Type 0} (of : A → B) (test : A → Bool) (items : List A) → IsWithoutRepeats (map of items) → IsWithoutRepeats (map of (filter test items))
  once_passed of test [] once = tt
  once_passed of test (item ∷ items) (first, rest) =
      one_once of item (filter test items) (test item) (λ there. first (was_there of test items (of item) there)) (once_passed of test items rest)

  -- an item that is set is there, and so is each other than the one that it replaces
  set_is_in : (items : List A) (place : ℕ) (old new : A) → slice_get items place ≡ Some old → IsIn new (slice_set items place new)
  set_is_in [] place old new at = cc
  set_is_in (first ∷ items) zero old new at = inl refl
  set_is_in (first ∷ items) (suc place) old new at = inr (set_is_in items place old new at)

  stays_in : (items : List A) (place : ℕ) (old new item : A) → slice_get items place ≡ Some old → ¬ (item ≡ old) → IsIn item items → IsIn item (slice_set items place new)
  stays_in [] place old new item at differs there = there
  stays_in (first ∷ items) zero old new item at differs (inl is) = absurd (differs (sym is ∙ same_first first old at))
    where
      same_first : (one other : A) → Some one ≡ Some other → one ≡ other
      same_first one other is = search rules
  stays_in (first ∷ items) zero old new item at differs (inr behind) = inr behind
  stays_in (first ∷ items) (suc place) old new item at differs (inl is) = inl is
  stays_in (first ∷ items) (suc place) old new item at differs (inr behind) = inr (stays_in items place old new item at differs behind)

-- the configuration with another zone at a place
abbrev pub with_zone_at : Config → (place : ℕ) → Zone → Config
with_zone_at config place zone = record config { zones = slice_set config.zones place zone }

still_held : (config : Config) (place : ℕ) (old told : Zone) (timed : Timed) → slice_get config.zones place ≡ Some old → told.name ≡ old.name → (named : Bool) → bytes_eq timed.zone told.name ≡ named
    → (not named || has told.rules timed.setting) ≡ true → IsHeld config (subject timed) → IsHeld (with_zone_at config place told) (subject timed)
still_held config place old told timed at same true is passes held = record {
  zone = told;
  there = set_is_in config.zones place old told at;
  named = sym ((bytes_eq-Decides timed.zone told.name).0 is);
  has = (has_decides told.rules timed.setting).0 passes;
}
still_held config place old told timed at same false is passes held = record {
  zone = held.zone;
  there = stays_in config.zones place old told held.zone at
      (λ (one : held.zone ≡ old). let named : timed.zone ≡ told.name = sym held.named ∙ ap (λ (z : Zone). z.name) one ∙ sym same in
      let yes_named = (bytes_eq-Decides timed.zone told.name).1 named in cc) held.there;
  named = held.named;
  has = held.has;
}

pub timers_held : (config : Config) (place : ℕ) (old told : Zone) (timers : List Timed) → slice_get config.zones place ≡ Some old → told.name ≡ old.name
    → AreTimers config timers → AreTimers (with_zone_at config place told) (going_on told timers)
unfolding going_on
timers_held config place old told timers at same are = record {
  held = each_passed (λ (timed : Timed). IsHeld config (subject timed)) (λ (timed : Timed). IsHeld (with_zone_at config place told) (subject timed)) (goes_on told) timers
      (λ timed passes held. still_held config place old told timed at same (bytes_eq timed.zone told.name) refl passes held) are.held;
  once = once_passed subject (goes_on told) timers are.once;
  in_time = each_passed (λ (timed : Timed). timed.deadline ≤ last_deadline) (λ (timed : Timed). timed.deadline ≤ last_deadline) (goes_on told) timers (λ timed passes in_time. in_time) are.in_time;
}
