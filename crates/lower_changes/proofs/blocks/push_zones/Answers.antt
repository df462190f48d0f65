use Rattle.std.proofs.Common.{List, take, sym, subst, Bor}
use Rattle.std.specs.List.{flat_map}
use Rattle.std.proofs.lemmas.List.{take_all}
use Rattle.fw_model.specs.declared.zone.Zone.{Zone}
use Rattle.fw_order.specs.Borrowed.{lent}
use Rattle.fw_valid.specs.Valid.{AreWritten}
use Rattle.lower_blocks.specs.Blocks.{Told}
use Rattle.lower_changes.specs.Blocks.{Behind}
use Rattle.lower_changes.specs.Needed.{told_zone}
use Rattle.lower_changes.proofs.Growing.{behind_both, behind_nothing}
use Rattle.lower_changes.proofs.blocks.push_zones.Goals as goal
use Rattle.lower_outside.proofs.Lists.{each_at}
use Rattle.lower_zone.proofs.Items.{flat_more}

pub loop-zone-init : goal.loop-zone-init
loop-zone-init c = λ all. behind_nothing c.args.config.now c.args.side c.args.chains.now

pub loop-zone-preserved : goal.loop-zone-preserved
loop-zone-preserved c = λ all.
    let told = told_zone c.args.side in
    subst (λ (list : List Told). Behind c.args.config.now c.args.side list c.args.chains.now c.push_zone.new.chains)
    (sym (flat_more told c.args.zones.now c.loop-zone.zone-index c.zone-item.result c.loop-zone-test.true c.zone-item.is))
    (behind_both c.args.config.now c.args.side (flat_map told (lent (take c.loop-zone.zone-index c.args.zones.now))) (told c.zone-item.result.now) _ _ _
    (c.loop-zone.invariant all)
    (c.in_ok-push_zone.ensures (each_at (λ (zone : Zone). AreWritten zone.rules) c.args.zones.now c.loop-zone.zone-index c.zone-item.result c.loop-zone-test.true c.zone-item.is all)))

pub returns : goal.returns
returns c = λ all.
    subst (λ (list : List (Bor Zone)). Behind c.args.config.now c.args.side (flat_map (told_zone c.args.side) (lent list)) c.args.chains.now c.loop-zone.chains)
    (take_all c.loop-zone.zone-index c.args.zones.now c.loop-zone-test.false) (c.loop-zone.invariant all)
