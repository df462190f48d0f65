-- The zone stands at the first place behind it.
use Rattle.std.proofs.Common.{◌≡◌, ℕ, ◌<◌, ◌⊎◌, true, false, List, length, insert, ◌∙◌, sym, subst}
use Rattle.fw_told.specs.declared.told.Active.{Active}
use Rattle.fw_zone_calls.proofs.Inserting.{inserted_at}
use Rattle.fw_zone_calls.specs.Active.{inserted, is_behind}
use Rattle.fw_zone_calls.proofs.active.insert.Goals as goal

pub returns : goal.returns
returns c =
    let zones : List Active = c.as_slice.result.now in
    let place : ℕ = c.place_for-place.result in
    let placed : inserted c.args.zone zones ≡ insert zones place c.args.zone =
    inserted_at c.args.zone zones place c.place_for-place.ensures.within
    (λ (before : ℕ) (below : before < place). subst (λ (name : List ℕ). is_behind zones before name ≡ false) c.as_str.ensures (c.place_for-place.ensures.behind before below))
    (subst (λ (name : List ℕ). (place ≡ length zones) ⊎ (is_behind zones place name ≡ true)) c.as_str.ensures c.place_for-place.ensures.at) in
    c.in_ok-insert.ensures.items
    ∙ sym (subst (λ (items : List Active). inserted c.args.zone items ≡ insert items place c.args.zone) c.as_slice.ensures.value placed)
