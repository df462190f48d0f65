-- An edit of one zone is an edit of the zones.
use Rattle.std.proofs.Common.{◌≡◌, ℕ, List, Some, Result, Ok, Err, OnErr, slice_get, slice_set, sym, ap, subst, ◌∙◌}
use Rattle.std.proofs.lemmas.Option.{same_Some}
use Rattle.fw_act.specs.Acts.{Edits}
use Rattle.fw_act.specs.declared.edit.EditError.{EditError}
use Rattle.fw_act.specs.declared.edit.EditError.TheVariants as edit
use Rattle.fw_answer.proofs.Places.{set_as_it_was}
use Rattle.fw_model.specs.declared.code.Code.{Code}
use Rattle.fw_model.specs.declared.zone.Zone.{Zone}
use Rattle.fw_zone_edits.specs.Settings.{edited}

as_it_was : (zones : List Zone) (place : ℕ) (zone new : Zone) → slice_get zones place ≡ Some zone → new ≡ zone → slice_set zones place new ≡ zones
as_it_was zones place zone new at kept = ap (λ z. slice_set zones place z) kept ∙ set_as_it_was zones place zone at

placed_by : (zones : List Zone) (place : ℕ) (zone new : Zone) (result : Result (Unit {0}) EditError) (wanted : Result Zone Code) → slice_get zones place ≡ Some zone
    → Edits zone new result wanted → Edits zones (slice_set zones place new) result (edited zones place wanted)
placed_by zones place zone new (Ok done) wanted at is = ap (edited zones place) is
placed_by zones place zone new (Err (edit.Refused code)) wanted at (is, kept) = (ap (edited zones place) is, as_it_was zones place zone new at kept)
placed_by zones place zone new (Err edit.Memory) wanted at kept = as_it_was zones place zone new at kept

-- the zone that was lent is the one at the place
pub placed : (act : Zone → Result Zone Code) (zones : List Zone) (place : ℕ) (lent new : Zone) (result : Result (Unit {0}) EditError) → slice_get zones place ≡ Some lent
    → Edits lent new result (act lent) → (zone : Zone) → slice_get zones place ≡ Some zone → Edits zones (slice_set zones place new) result (edited zones place (act zone))
placed act zones place lent new result at is zone found =
    subst (λ z. Edits zones (slice_set zones place new) result (edited zones place (act z))) (same_Some lent zone (sym at ∙ found))
    (placed_by zones place lent new result (act lent) at is)

pub placed_kept : (zones : List Zone) (place : ℕ) (lent new : Zone) (result : Result (Unit {0}) EditError) → slice_get zones place ≡ Some lent
    → OnErr result (new ≡ lent) → OnErr result (slice_set zones place new ≡ zones)
placed_kept zones place lent new (Ok done) at kept = kept
placed_kept zones place lent new (Err error) at kept = as_it_was zones place lent new at kept
