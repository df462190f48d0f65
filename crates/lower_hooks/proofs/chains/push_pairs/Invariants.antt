-- Each zone so far has its chain.
use Rattle.std.proofs.Common.{◌≡◌, ◌++◌, take}
use Rattle.fw_model.specs.declared.zone.Zone.{Zone}
use Rattle.fw_order.specs.Borrowed.{lent}
use Rattle.fw_zone.specs.Lists.{IsIn}
use Rattle.lower_hooks.specs.Chains.{Grows, HasChain}
use Rattle.lower_hooks.specs.Leads.{HasLeads, IsForwardTarget}
use Rattle.lower_hooks.specs.Names.{names_of, zone_names, pair_start}
use Rattle.lower_hooks.specs.Zones.{ForwardStands, zone_to_zone}
use Rattle.lower_hooks.proofs.chains.push_pairs.Given as goal

abbrev pub invariant-loop-zone : goal.invariant-loop-zone
invariant-loop-zone l =
    Grows l.initial.chains l.chains
    × ((zone : Zone) → IsIn zone (lent (take l.zone-index l.zones))
    → HasChain l.config (ForwardStands l.config l.from zone) (zone_to_zone l.config l.from zone) (pair_start l.from.name ++ zone.name) l.chains)
    × (names_of l.chains ≡ names_of l.initial.chains ++ zone_names (pair_start l.from.name) (lent (take l.zone-index l.zones)))
    × ((zone : Zone) → IsIn zone (lent (take l.zone-index l.zones)) → HasLeads l.config (IsForwardTarget l.config l.from zone) (pair_start l.from.name ++ zone.name) l.chains)
