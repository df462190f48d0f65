-- Zones of which the first that lists an entry lost it.
use Rattle.std.proofs.Common.{◌≡◌, ◌≢◌, ◌∙◌, ℕ, zero, suc, ◌⊎◌, inl, inr, Bool, true, false, List, [], ◌∷◌, Some, slice_get, slice_set, remove, refl, sym, ap, subst}
use Rattle.std.specs.List.{list_any}
use Rattle.std.specs.Str.{bytes_eq}
use Rattle.std.proofs.lemmas.Bool.{both_ways, false_from_ne_true}
use Rattle.fw_answer.proofs.Equality as equality
use Rattle.fw_answer.proofs.Items.{IsEquality, is_in_decides}
use Rattle.fw_answer.specs.Equal.{same_source}
use Rattle.fw_answer.specs.Lists.{is_in}
use Rattle.fw_model.specs.declared.config.Config.{Config}
use Rattle.fw_model.specs.declared.zone.Zone.{Zone}
use Rattle.fw_timer_laws.proofs.Has.{gone_without}
use Rattle.fw_valid.specs.Each.{Each}
use Rattle.fw_valid_edits.proofs.Edited.{each_weaker}
use Rattle.fw_valid_edits.specs.Fit.{AreFree, IsFitZone}
use Rattle.fw_zone.specs.Bindings.{interfaces_of, sources_of}
use Rattle.fw_zone.specs.Lists.{IsIn}
use Rattle.fw_zone_edits.specs.Entries.{first_changed, lists, without_entry}
use Rattle.fw_zone_edits.specs.declared.entry.Entry.TheVariants as entries
use Rattle.fw_zone_edits.specs.declared.entry.Entry.{Entry}

-- the first zone that passes a test, and what becomes of the zones where that one is changed
pub record IsFirst (test : Zone → Bool) (change : Zone → Zone) (zones : List Zone) : Type 0 where
  pub place : ℕ
  pub zone : Zone
  pub at : slice_get zones place ≡ Some zone
  pub passes : test zone ≡ true
  pub is : first_changed test change zones ≡ slice_set zones place (change zone)

-- no zone passes it
pub record IsNone (test : Zone → Bool) (change : Zone → Zone) (zones : List Zone) : Type 0 where
  pub fails : list_any test zones ≡ false
  pub is : first_changed test change zones ≡ zones

module _ (test : Zone → Bool) (change : Zone → Zone) where
  first_by : (zone : Zone) (zones : List Zone) (here : Bool) → test zone ≡ here → IsFirst test change zones ⊎ IsNone test change zones
      → IsFirst test change (zone ∷ zones) ⊎ IsNone test change (zone ∷ zones)
  first_by zone zones true here rest = inl (record { place = zero; zone = zone; at = refl; passes = here; is = rw here refl })
  first_by zone zones false here (inl first) =
      inl (record { place = suc first.place; zone = first.zone; at = first.at; passes = first.passes; is = rw here (ap (λ others. zone ∷ others) first.is) })
  first_by zone zones false here (inr none) = inr (record { fails = rw here none.fails; is = rw here (ap (λ others. zone ∷ others) none.is) })

  pub first_or_none : (zones : List Zone) → IsFirst test change zones ⊎ IsNone test change zones
  first_or_none [] = inr (record { fails = refl; is = refl })
  first_or_none (zone ∷ zones) = first_by zone zones (test zone) refl (first_or_none zones)

  -- a zone that fails it stays where it is
  same_zone : (one other : Zone) → Some one ≡ Some other → one ≡ other
  same_zone one other is = cc

  pub first_elsewhere : (zones : List Zone) (place : ℕ) (zone : Zone) → slice_get zones place ≡ Some zone → test zone ≡ false → (first : IsFirst test change zones) → place ≢ first.place
  first_elsewhere zones place zone at fails first same =
      let one : first.zone ≡ zone = same_zone first.zone zone (sym first.at ∙ subst (λ (p : ℕ). slice_get zones p ≡ Some zone) same at) in
      both_ways (test zone) fails (subst (λ (z : Zone). test z ≡ true) one first.passes)

pub other_stays : (zones : List Zone) (place other : ℕ) (new : Zone) → other ≢ place → slice_get (slice_set zones place new) other ≡ slice_get zones other
other_stays [] place other new differs = refl
other_stays (first ∷ others) zero zero new differs = absurd (differs refl)
other_stays (first ∷ others) zero (suc other) new differs = refl
other_stays (first ∷ others) (suc place) zero new differs = refl
other_stays (first ∷ others) (suc place) (suc other) new differs = other_stays others place other new (λ same. differs (ap suc same))

-- none passes a test, where the others don't, and what came in place of one doesn't
none_set : (test : Zone → Bool) (zones : List Zone) (place : ℕ) (old new : Zone) → slice_get zones place ≡ Some old → Each (λ (other : Zone). test other ≡ false) (remove zones place) → test new ≡ false
    → list_any test (slice_set zones place new) ≡ false
none_set test [] place old new at others fails = cc
none_set test (first ∷ zones) zero old new at others fails = rw fails (none_in zones others)
  where
    none_in : (zones : List Zone) → Each (λ (other : Zone). test other ≡ false) zones → list_any test zones ≡ false
    none_in [] each = refl
    none_in (zone ∷ zones) each = rw each.0 (none_in zones each.1)
none_set test (first ∷ zones) (suc place) old new at others fails = rw others.0 (none_set test zones place old new at others.1 fails)

-- a test that says that an entry isn't there
module _ {A : Type 0} (same : A → A → Bool) (equal : IsEquality same) where
  not_in : (entry : A) (items : List A) → ¬ (IsIn entry items) → is_in same entry items ≡ false
  not_in entry items absent = false_from_ne_true (is_in same entry items) (λ is. absent ((is_in_decides same equal entry items).0 is))

  no_others : (of : Zone → List A) (others : List Zone) (zone : Zone) (entry : A) → AreFree of others zone → is_in same entry (of zone) ≡ true
      → Each (λ (other : Zone). is_in same entry (of other) ≡ false) others
  no_others of others zone entry free listed =
      each_weaker (λ (other : Zone). ¬ (IsIn entry (of other))) (λ (other : Zone). is_in same entry (of other) ≡ false) others (λ other absent. not_in entry (of other) absent)
      (free entry ((is_in_decides same equal entry (of zone)).0 listed))

-- no other zone lists an entry that one lists, and that one doesn't once it lost it
others_free : (config : Config) (others : List Zone) (zone : Zone) (one : Entry) → IsFitZone config others zone → lists one zone ≡ true → Each (λ (other : Zone). lists one other ≡ false) others
others_free config others zone (entries.Interface name) fit listed = no_others bytes_eq equality.texts interfaces_of others zone name fit.interfaces_free listed
others_free config others zone (entries.Source source) fit listed = no_others same_source equality.sources sources_of others zone source fit.sources_free listed

lost : (config : Config) (others : List Zone) (zone : Zone) (one : Entry) → IsFitZone config others zone → lists one (without_entry zone one) ≡ false
lost config others zone (entries.Interface name) fit =
    not_in bytes_eq equality.texts name (without_entry zone (entries.Interface name)).interfaces (gone_without bytes_eq equality.texts name zone.interfaces fit.interfaces_once)
lost config others zone (entries.Source source) fit =
    not_in same_source equality.sources source (without_entry zone (entries.Source source)).sources (gone_without same_source equality.sources source zone.sources fit.sources_once)

pub none_left : (config : Config) (zones : List Zone) (place : ℕ) (zone : Zone) (one : Entry) → slice_get zones place ≡ Some zone → IsFitZone config (remove zones place) zone → lists one zone ≡ true
    → list_any (lists one) (slice_set zones place (without_entry zone one)) ≡ false
none_left config zones place zone one at fit listed =
    none_set (lists one) zones place zone (without_entry zone one) at (others_free config (remove zones place) zone one fit listed) (lost config (remove zones place) zone one fit)
