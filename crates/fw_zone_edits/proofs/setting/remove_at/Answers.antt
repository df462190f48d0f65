-- The edit of the zone at the place.
use Rattle.fw_model.specs.declared.zone.Zone.{Zone}
use Rattle.fw_zone_edits.proofs.Placed.{placed, placed_kept}
use Rattle.fw_zone_edits.specs.Settings.{removed, removed_at}
use Rattle.fw_zone_edits.proofs.setting.remove_at.Goals as goal

pub returns-clause-edits : goal.returns-clause-edits
unfolding removed_at
returns-clause-edits c =
    placed (λ (zone : Zone). removed zone c.args.setting.now) c.args.zones.now c.args.place c.get_mut.result.now c.remove_from.new.zone c.remove_from.result c.get_mut.ensures.value c.remove_from.ensures.edits

pub returns-clause-err : goal.returns-clause-err
returns-clause-err c =
    placed_kept c.args.zones.now c.args.place c.get_mut.result.now c.remove_from.new.zone c.remove_from.result c.get_mut.ensures.value c.remove_from.ensures.err
