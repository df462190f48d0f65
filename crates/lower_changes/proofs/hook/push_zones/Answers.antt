use Rattle.lower_changes.specs.Chains.{zone_chain}
use Rattle.lower_changes.proofs.Growing.{mapped_more}
use Rattle.lower_changes.proofs.hook.push_zones.Goals as goal

pub loop-zone-preserved : goal.loop-zone-preserved
loop-zone-preserved c =
    mapped_more (zone_chain c.args.config.now c.args.side) c.args.zones.now c.loop-zone.zone-index c.zone-item.result c.args.chains.now _ _ c.loop-zone-test.true c.zone-item.is
    c.loop-zone.invariant c.in_ok-push_zone.ensures
