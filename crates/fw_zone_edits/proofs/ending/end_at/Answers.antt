-- The setting went from the zone at the place.
use Rattle.std.proofs.Common.{◌≡◌, Some, slice_get, slice_set, ap, sym, ◌∙◌}
use Rattle.std.proofs.lemmas.Option.{same_Some}
use Rattle.fw_model.specs.declared.rules.Rules.{Rules}
use Rattle.fw_model.specs.declared.zone.Zone.{Zone}
use Rattle.fw_zone_edits.specs.Settings.{without_setting}
use Rattle.fw_zone_edits.proofs.ending.end_at.Goals as goal

pub returns : goal.returns
returns c = λ (zone : Zone) (at : slice_get c.args.zones.now c.args.place ≡ Some zone).
    ap (λ (rules : Rules). slice_set c.args.zones.now c.args.place (record c.get_mut.result.now { rules = rules })) c.leave_out.ensures
    ∙ ap (λ (z : Zone). slice_set c.args.zones.now c.args.place (record z { rules = without_setting z.rules c.args.timed.now.setting }))
    (same_Some c.get_mut.result.now zone (sym c.get_mut.ensures.value ∙ at))
