-- The edit of the zone at the place.
use Rattle.fw_model.specs.declared.zone.Zone.{Zone}
use Rattle.fw_zone_edits.proofs.Placed.{placed, placed_kept}
use Rattle.fw_zone_edits.specs.Settings.{added, added_at}
use Rattle.fw_zone_edits.proofs.setting.add_at.Goals as goal

pub returns-clause-edits : goal.returns-clause-edits
unfolding added_at
returns-clause-edits c =
    placed (λ (zone : Zone). added zone c.args.setting) c.args.zones.now c.args.place c.get_mut.result.now c.add_to.new.zone c.add_to.result c.get_mut.ensures.value c.add_to.ensures.edits

pub returns-clause-err : goal.returns-clause-err
returns-clause-err c =
    placed_kept c.args.zones.now c.args.place c.get_mut.result.now c.add_to.new.zone c.add_to.result c.get_mut.ensures.value c.add_to.ensures.err
