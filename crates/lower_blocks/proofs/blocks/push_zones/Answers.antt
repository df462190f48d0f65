use Rattle.std.proofs.Common.{rules, ◌≡◌, ◌∙◌, ◌<◌, length, get_or, refl, sym}
use Rattle.std.proofs.lemmas.Option.{slice_get_read}
use Rattle.lower_blocks.specs.Blocks.Told.{of_zone}
use Rattle.lower_blocks.specs.Needed.{is_told}
use Rattle.lower_blocks.proofs.Growing.{told_more, told_not}
use Rattle.lower_blocks.proofs.blocks.push_zones.Goals as goal
use Rattle.lower_blocks.proofs.blocks.push_zones.Goals.{then-is_told+in_ok-zone_block+in_ok-push_block, else-is_told}

pub loop-place-preserved : goal.loop-place-preserved
loop-place-preserved c =
    let config = c.args.runtime.now.config in
    let zones = config.zones in
    let place = c.loop-place.place in
    let zone = c.index-zones-place.result in
    let below : place < length zones = search rules in
    let at : zone ≡ get_or zones place zone = search rules in
    elim c.if-is_told.branch [
      | then-is_told+in_ok-zone_block+in_ok-push_block w ↦
          told_more config of_zone (is_told config) zones place zone below at
          c.args.chains.now c.loop-place.chains c.if-is_told.chains w.in_ok-zone_block.field-0 (sym c.is_told.ensures ∙ w.if-is_told.true)
          (w.in_ok-zone_block.ensures zone (slice_get_read zones (length zones) place zone refl below at)) (search rules) c.loop-place.invariant
      | else-is_told w ↦
          told_not config of_zone (is_told config) zones place zone below at
          c.args.chains.now c.loop-place.chains c.if-is_told.chains (sym c.is_told.ensures ∙ w.if-is_told.false) w.chains-is c.loop-place.invariant
    ]
