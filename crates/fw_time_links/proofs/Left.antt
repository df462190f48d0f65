-- A zone that has a name loses it.
use Rattle.std.proofs.Common.{◌≡◌, ◌∙◌, ℕ, ◌<◌, Bool, true, false, List, Option, None, Some, get_or, length, refl, sym, ap, subst}
use Rattle.std.specs.Prelude.{if◌then◌else◌, OnErr, Result, Ok, Err, position, slice_get, slice_set}
use Rattle.std.specs.List.{list_any}
use Rattle.std.proofs.lemmas.List.Quantifiers.{position-Some}
use Rattle.fw_answer.proofs.Places.{set_as_it_was}
use Rattle.fw_model.specs.declared.zone.Zone.{Zone}
use Rattle.fw_zone_edits.specs.Entries.{lists, unbound, unknown, without_entry}
use Rattle.fw_zone_edits.specs.declared.entry.Entry.{Entry}
use Rattle.fw_model.specs.declared.code.Code.{Code}
use Rattle.fw_model.specs.declared.code.Code.TheVariants as code

pub left : (zones new : List Zone) (place : ℕ) (zone : Zone) (entry : Entry) → lists entry zone ≡ true
    → unbound zones (record { place = place; zone = zone }) entry ≡ Ok new
    → new ≡ slice_set zones place (without_entry zone entry)
unfolding unbound
left zones new place zone entry has is =
    let same = sym (ap (λ (hit : Bool). if hit then Ok (slice_set zones place (without_entry zone entry)) else (if list_any (lists entry) zones then Err code.ZoneConflict else Err (unknown entry))) has) ∙ is in cc

-- the zone at the first place at which a test passes passes it
pub passes : (test : Zone → Bool) (zones : List Zone) (place : ℕ) (zone : Zone) → position test zones ≡ Some place → zone ≡ get_or zones place zone → test zone ≡ true
passes test zones place zone first is = ap test is ∙ (position-Some test zones place zone first).1

-- zones of which one got no more interfaces
pub as_before : {E : Type 0} (zones : List Zone) (place : ℕ) (zone : Zone) (new : List (List ℕ)) (result : Result (Unit {0}) E) → slice_get zones place ≡ Some zone
    → OnErr result (new ≡ zone.interfaces) → OnErr result (slice_set zones place (record zone { interfaces = new }) ≡ zones)
as_before zones place zone new (Ok done) at kept = kept
as_before zones place zone new (Err error) at kept = ap (λ (names : List (List ℕ)). slice_set zones place (record zone { interfaces = names })) kept ∙ set_as_it_was zones place zone at
