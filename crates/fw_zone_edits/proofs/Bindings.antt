-- What the edits of bindings did, as relations say it and as tests do.
use Rattle.std.proofs.Common.{◌≡◌, ◌≢◌, ℕ, zero, suc, ◌<◌, arith, inl, inr, ◌↔◌, Bool, true, false, ◌||◌, if◌then◌else◌, List, [], ◌∷◌, ◌++◌, Some, Result, Ok, Err, IsOk, OnOk, OnErr, slice_get, slice_set, refl, sym, ap, ◌∙◌, subst}
use Rattle.std.specs.List.{list_any}
use Rattle.std.proofs.lemmas.Bool.{false_from_ne_true}
use Rattle.std.proofs.lemmas.Option.{same_Some}
use Rattle.fw_model.specs.declared.code.Code.{Code}
use Rattle.fw_model.specs.declared.code.Code.TheVariants as code
use Rattle.fw_model.specs.declared.zone.Zone.{Zone}
use Rattle.fw_zone.specs.Bindings.{IsBound, IsInConflict, IsListed, IsListedAt, IsMoved, IsUnbound}
use Rattle.fw_zone.specs.Lists.{IsIn}
use Rattle.fw_zone.specs.declared.bindings.BindError.{BindError}
use Rattle.fw_zone.specs.declared.bindings.BindError.TheVariants as bind
use Rattle.fw_answer.proofs.Items.{IsEquality, is_in_decides, removed_is_without}
use Rattle.fw_zone_edits.specs.Entries.{first_changed}
use Rattle.fw_answer.specs.Lists.{is_in, without}
use Rattle.fw_act.specs.Acts.{Edits}
use Rattle.fw_zone_edits.specs.Settled.{settled, settled_move}

-- what stands at another place stays
other_stays : {A : Type 0} (items : List A) (place other : ℕ) (item : A) → other ≢ place → slice_get (slice_set items place item) other ≡ slice_get items other
other_stays [] place other item differs = refl
other_stays (first ∷ others) zero zero item differs = absurd (differs refl)
other_stays (first ∷ others) zero (suc other) item differs = refl
other_stays (first ∷ others) (suc place) zero item differs = refl
other_stays (first ∷ others) (suc place) (suc other) item differs = other_stays others place other item (λ same. differs (ap suc same))

-- two places are set in either order
set_both : {A : Type 0} (items : List A) (place other : ℕ) (item another : A) → other ≢ place → slice_set (slice_set items place item) other another ≡ slice_set (slice_set items other another) place item
set_both [] place other item another differs = refl
set_both (first ∷ others) zero zero item another differs = absurd (differs refl)
set_both (first ∷ others) zero (suc other) item another differs = refl
set_both (first ∷ others) (suc place) zero item another differs = refl
set_both (first ∷ others) (suc place) (suc other) item another differs =
    ap (λ rest. first ∷ rest) (set_both others place other item another (λ same. differs (ap suc same)))

-- an edit that isn't made keeps what holds then
pub settled_err : (unknown : Code) (P : Type 0) (result : Result (Unit {0}) BindError) → OnErr result P → OnErr (settled unknown result) P
settled_err unknown P (Ok done) kept = kept
settled_err unknown P (Err bind.ZoneAlreadySet) kept = kept
settled_err unknown P (Err bind.ZoneConflict) kept = kept
settled_err unknown P (Err bind.Unknown) kept = kept
settled_err unknown P (Err bind.Memory) kept = kept

pub settled_move_err : (P : Type 0) (result : Result (Unit {0}) BindError) → OnErr result P → OnErr (settled_move result) P
settled_move_err P (Ok done) kept = kept
settled_move_err P (Err bind.ZoneAlreadySet) kept = tt
settled_move_err P (Err bind.ZoneConflict) kept = kept
settled_move_err P (Err bind.Unknown) kept = kept
settled_move_err P (Err bind.Memory) kept = kept

module _ {A : Type 0} (of : Zone → List A) (with : Zone → List A → Zone) (same : A → A → Bool) (equality : IsEquality same) (entry : A) where
  abbrev holds : Zone → Bool
  holds zone = is_in same entry (of zone)

  abbrev appended : Zone → Zone
  appended zone = with zone (of zone ++ entry ∷ [])

  abbrev cleared : Zone → Zone
  cleared zone = with zone (without same entry (of zone))

  abbrev lost : List Zone → List Zone
  lost zones = first_changed holds cleared zones

  -- the zone at a place
  listed_true : (zones : List Zone) (place : ℕ) (zone : Zone) → slice_get zones place ≡ Some zone → IsListedAt of with zones place entry → holds zone ≡ true
  listed_true zones place zone at listed =
      let is : listed.zone ≡ zone = same_Some listed.zone zone (sym listed.at ∙ at) in
      (is_in_decides same equality entry (of zone)).1 (subst (λ z. IsIn entry (of z)) is listed.lists)

  true_listed : (zones : List Zone) (place : ℕ) (zone : Zone) → slice_get zones place ≡ Some zone → holds zone ≡ true → IsListedAt of with zones place entry
  true_listed zones place zone at is = record { zone = zone; at = at; lists = (is_in_decides same equality entry (of zone)).0 is }

  not_listed_false : (zones : List Zone) (place : ℕ) (zone : Zone) → slice_get zones place ≡ Some zone → ¬ (IsListedAt of with zones place entry) → holds zone ≡ false
  not_listed_false zones place zone at absent = false_from_ne_true (holds zone) (λ is. absent (true_listed zones place zone at is))

  -- any zone
  any_first : (zone : Zone) (zones : List Zone) → holds zone ≡ true → list_any holds (zone ∷ zones) ≡ true
  any_first zone zones is = rw is

  or_true : (b : Bool) → (b || true) ≡ true
  or_true true = refl
  or_true false = refl

  any_at : (zones : List Zone) (place : ℕ) (zone : Zone) → slice_get zones place ≡ Some zone → holds zone ≡ true → list_any holds zones ≡ true
  any_at [] place zone at is = cc
  any_at (first ∷ others) zero zone at is =
      let same_zone : first ≡ zone = same_Some first zone at in
      any_first first others (subst (λ z. holds z ≡ true) (sym same_zone) is)
  any_at (first ∷ others) (suc place) zone at is = ap (λ b. holds first || b) (any_at others place zone at is) ∙ or_true (holds first)

  any_listed : (zones : List Zone) → IsListed of with zones entry → list_any holds zones ≡ true
  any_listed zones (place, listed) = any_at zones place listed.zone listed.at ((is_in_decides same equality entry (of listed.zone)).1 listed.lists)

  listed_behind : (first : Zone) (others : List Zone) → IsListed of with others entry → IsListed of with (first ∷ others) entry
  listed_behind first others (place, listed) = (suc place, record { zone = listed.zone; at = listed.at; lists = listed.lists })

  listed_by : (first : Zone) (others : List Zone) (b : Bool) → holds first ≡ b → (b || list_any holds others) ≡ true → (list_any holds others ≡ true → IsListed of with others entry) → IsListed of with (first ∷ others) entry
  listed_by first others true here is rest = (zero, true_listed (first ∷ others) zero first refl here)
  listed_by first others false here is rest = listed_behind first others (rest is)

  listed_any : (zones : List Zone) → list_any holds zones ≡ true → IsListed of with zones entry
  listed_any [] is = cc
  listed_any (first ∷ others) is = listed_by first others (holds first) refl is (listed_any others)

  none_listed : (zones : List Zone) → ¬ (IsListed of with zones entry) → list_any holds zones ≡ false
  none_listed zones absent = false_from_ne_true (list_any holds zones) (λ is. absent (listed_any zones is))

  -- another zone, where this one doesn't list it
  elsewhere : (zones : List Zone) (place : ℕ) → ¬ (IsListedAt of with zones place entry) → IsListed of with zones entry → IsInConflict of with zones place entry
  elsewhere zones place absent (other, listed) =
      (absent, (other, (λ is. absent (subst (λ p. IsListedAt of with zones p entry) is listed)), listed))

  nowhere : (zones : List Zone) (place : ℕ) → ¬ (IsListedAt of with zones place entry) → ¬ (IsInConflict of with zones place entry) → ¬ (IsListed of with zones entry)
  nowhere zones place absent harmless listed = harmless (elsewhere zones place absent listed)

  abbrev binding : List Zone → (place : ℕ) → Zone → Result (List Zone) Code
  binding zones place zone =
      if holds zone then Err code.ZoneAlreadySet
      else (if list_any holds zones then Err code.ZoneConflict else Ok (slice_set zones place (appended zone)))

  abbrev unbinding : Code → List Zone → (place : ℕ) → Zone → Result (List Zone) Code
  unbinding unknown zones place zone =
      if holds zone then Ok (slice_set zones place (cleared zone))
      else (if list_any holds zones then Err code.ZoneConflict else Err unknown)

  abbrev moving : List Zone → (place : ℕ) → Zone → List Zone
  moving zones place zone = if holds zone then zones else slice_set (lost zones) place (appended zone)

  pub bind_edits : (unknown : Code) (zones new : List Zone) (place : ℕ) (zone : Zone) (result : Result (Unit {0}) BindError) → slice_get zones place ≡ Some zone
      → OnOk result (IsBound of with zones place entry new)
      → ((result ≡ Err bind.ZoneAlreadySet) ↔ IsListedAt of with zones place entry)
      → ((result ≡ Err bind.ZoneConflict) ↔ IsInConflict of with zones place entry)
      → (result ≢ Err bind.Unknown)
      → OnErr result (new ≡ zones)
      → Edits zones new (settled unknown result) (binding zones place zone)
  bind_edits unknown zones new place zone (Ok done) at bound already conflict known kept =
      let absent : ¬ (IsListedAt of with zones place entry) = λ listed. let no_error = already.1 listed in cc in
      let harmless : ¬ (IsInConflict of with zones place entry) = λ other. let no_error = conflict.1 other in cc in
      let here = not_listed_false zones place zone at absent in
      let any = none_listed zones (nowhere zones place absent harmless) in
      let is : bound.zone ≡ zone = same_Some bound.zone zone (sym bound.at ∙ at) in
      rw (here, any) (ap Ok (sym (bound.is ∙ ap (λ z. slice_set zones place (appended z)) is)))
  bind_edits unknown zones new place zone (Err bind.ZoneAlreadySet) at bound already conflict known kept =
      let here = listed_true zones place zone at (already.0 refl) in
      (rw here refl, kept)
  bind_edits unknown zones new place zone (Err bind.ZoneConflict) at bound already conflict known kept =
      let other = conflict.0 refl in
      let here = not_listed_false zones place zone at other.0 in
      let any = any_listed zones (other.1.0, other.1.2) in
      (rw (here, any) refl, kept)
  bind_edits unknown zones new place zone (Err bind.Unknown) at bound already conflict known kept = absurd (known refl)
  bind_edits unknown zones new place zone (Err bind.Memory) at bound already conflict known kept = kept

  pub unbind_edits : (unknown : Code) (zones new : List Zone) (place : ℕ) (zone : Zone) (result : Result (Unit {0}) BindError) → slice_get zones place ≡ Some zone
      → OnOk result (IsUnbound of with zones place entry new)
      → (IsOk result ↔ IsListedAt of with zones place entry)
      → ((result ≡ Err bind.ZoneConflict) ↔ IsInConflict of with zones place entry)
      → ((result ≡ Err bind.Unknown) ↔ (¬ (IsListed of with zones entry)))
      → OnErr result (new ≡ zones)
      → Edits zones new (settled unknown result) (unbinding unknown zones place zone)
  unbind_edits unknown zones new place zone (Ok done_with) at unbound done conflict none_has kept =
      let here = listed_true zones place zone at (done.0 refl) in
      let is : unbound.zone ≡ zone = same_Some unbound.zone zone (sym unbound.at ∙ at) in
      let left = removed_is_without same equality entry (of unbound.zone) unbound.left unbound.removed in
      rw here (ap Ok (sym (unbound.is ∙ ap (λ items. slice_set zones place (with unbound.zone items)) left ∙ ap (λ z. slice_set zones place (cleared z)) is)))
  unbind_edits unknown zones new place zone (Err bind.ZoneAlreadySet) at unbound done conflict none_has kept =
      let absent : ¬ (IsListedAt of with zones place entry) = λ listed. let is_ok = done.1 listed in cc in
      let harmless : ¬ (IsInConflict of with zones place entry) = λ other. let no_error = conflict.1 other in cc in
      let impossible = none_has.1 (nowhere zones place absent harmless) in
      cc
  unbind_edits unknown zones new place zone (Err bind.ZoneConflict) at unbound done conflict none_has kept =
      let other = conflict.0 refl in
      let here = not_listed_false zones place zone at other.0 in
      let any = any_listed zones (other.1.0, other.1.2) in
      (rw (here, any) refl, kept)
  unbind_edits unknown zones new place zone (Err bind.Unknown) at unbound done conflict none_has kept =
      let absent = none_has.0 refl in
      let here = not_listed_false zones place zone at (λ listed. absent (place, listed)) in
      let any = none_listed zones absent in
      (rw (here, any) refl, kept)
  unbind_edits unknown zones new place zone (Err bind.Memory) at unbound done conflict none_has kept = kept

  nothing_by : (first : Zone) (others : List Zone) (b : Bool) → holds first ≡ b → (b || list_any holds others) ≡ false → (list_any holds others ≡ false → lost others ≡ others) → lost (first ∷ others) ≡ first ∷ others
  nothing_by first others true here is rest = cc
  nothing_by first others false here is rest = rw here (ap (λ zones. first ∷ zones) (rest is))

  nothing_lost : (zones : List Zone) → list_any holds zones ≡ false → lost zones ≡ zones
  nothing_lost [] is = refl
  nothing_lost (first ∷ others) is = nothing_by first others (holds first) refl is (nothing_lost others)

  lost_at : (zones : List Zone) (from : ℕ) (zone : Zone) → slice_get zones from ≡ Some zone → holds zone ≡ true → ((before : ℕ) → before < from → ¬ (IsListedAt of with zones before entry)) → lost zones ≡ slice_set zones from (cleared zone)
  lost_at [] from zone at is first = cc
  lost_at (head ∷ others) zero zone at is first =
      let same_zone : head ≡ zone = same_Some head zone at in
      let here : holds head ≡ true = subst (λ z. holds z ≡ true) (sym same_zone) is in
      rw here (ap (λ z. cleared z ∷ others) same_zone)
  lost_at (head ∷ others) (suc from) zone at is first =
      let here : holds head ≡ false = not_listed_false (head ∷ others) zero head refl (first zero (omega arith)) in
      rw here (ap (λ rest. head ∷ rest) (lost_at others from zone at is
      (λ before below listed. first (suc before) (omega arith) (record { zone = listed.zone; at = listed.at; lists = listed.lists }))))

  moved_is : (zones new : List Zone) (place : ℕ) (zone : Zone) → slice_get zones place ≡ Some zone → ¬ (IsListedAt of with zones place entry) → IsMoved of with zones place entry new → new ≡ slice_set (lost zones) place (appended zone)
  moved_is zones new place zone at absent (inl (not_listed, bound)) =
      let is : bound.zone ≡ zone = same_Some bound.zone zone (sym bound.at ∙ at) in
      bound.is ∙ ap (λ z. slice_set zones place (appended z)) is
      ∙ ap (λ items. slice_set items place (appended zone)) (sym (nothing_lost zones (none_listed zones not_listed)))
  moved_is zones new place zone at absent (inr (from, first, moved)) =
      let differs : from ≢ place = λ is. absent (subst (λ p. IsListedAt of with zones p entry) is first.listed) in
      let is : moved.bound.zone ≡ zone = same_Some moved.bound.zone zone (sym moved.bound.at ∙ at) in
      let between : moved.between ≡ slice_set zones place (appended zone) = moved.bound.is ∙ ap (λ z. slice_set zones place (appended z)) is in
      let source = first.listed.zone in
      let was : slice_get moved.between from ≡ Some source = ap (λ items. slice_get items from) between ∙ other_stays zones place from (appended zone) differs ∙ first.listed.at in
      let same_source : moved.unbound.zone ≡ source = same_Some moved.unbound.zone source (sym moved.unbound.at ∙ was) in
      let left = removed_is_without same equality entry (of moved.unbound.zone) moved.unbound.left moved.unbound.removed in
      let changed : new ≡ slice_set moved.between from (cleared source) =
      moved.unbound.is ∙ ap (λ items. slice_set moved.between from (with moved.unbound.zone items)) left ∙ ap (λ z. slice_set moved.between from (cleared z)) same_source in
      let holds_it = (is_in_decides same equality entry (of source)).1 first.listed.lists in
      changed ∙ ap (λ items. slice_set items from (cleared source)) between
      ∙ set_both zones place from (appended zone) (cleared source) differs
      ∙ ap (λ items. slice_set items place (appended zone)) (sym (lost_at zones from source first.listed.at holds_it first.first))

  pub move_edits : (zones new : List Zone) (place : ℕ) (zone : Zone) (result : Result (Unit {0}) BindError) → slice_get zones place ≡ Some zone
      → OnOk result (IsMoved of with zones place entry new)
      → ((result ≡ Err bind.ZoneAlreadySet) ↔ IsListedAt of with zones place entry)
      → OnErr result (new ≡ zones)
      → Edits zones new (settled_move result) (Ok (moving zones place zone))
  move_edits zones new place zone (Ok done) at moved already kept =
      let absent : ¬ (IsListedAt of with zones place entry) = λ listed. let no_error = already.1 listed in cc in
      let here = not_listed_false zones place zone at absent in
      rw here (ap Ok (sym (moved_is zones new place zone at absent moved)))
  move_edits zones new place zone (Err bind.ZoneAlreadySet) at moved already kept =
      let here = listed_true zones place zone at (already.0 refl) in
      rw here (ap Ok (sym kept))
  move_edits zones new place zone (Err bind.ZoneConflict) at moved already kept = kept
  move_edits zones new place zone (Err bind.Unknown) at moved already kept = kept
  move_edits zones new place zone (Err bind.Memory) at moved already kept = kept
