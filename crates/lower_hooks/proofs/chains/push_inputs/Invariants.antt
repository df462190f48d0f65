-- Each zone so far has its chain.
use Rattle.std.proofs.Common.{◌≡◌, ◌++◌, take}
use Rattle.fw_model.specs.declared.zone.Zone.{Zone}
use Rattle.fw_order.specs.Borrowed.{lent}
use Rattle.fw_zone.specs.Lists.{IsIn}
use Rattle.lower_hooks.specs.Chains.{Grows, HasChain}
use Rattle.lower_hooks.specs.Leads.{HasLeads, IsInputTarget}
use Rattle.lower_hooks.specs.Names.{names_of, zone_names, input_start}
use Rattle.lower_hooks.specs.Zones.{InputStands, zone_to_host}
use Rattle.lower_hooks.proofs.chains.push_inputs.Given as goal

abbrev pub invariant-loop-zone : goal.invariant-loop-zone
invariant-loop-zone l =
    Grows l.initial.chains l.chains
    × ((zone : Zone) → IsIn zone (lent (take l.zone-index l.zones)) → HasChain l.config (InputStands l.config zone) (zone_to_host l.config zone) (input_start ++ zone.name) l.chains)
    × (names_of l.chains ≡ names_of l.initial.chains ++ zone_names input_start (lent (take l.zone-index l.zones)))
    × ((zone : Zone) → IsIn zone (lent (take l.zone-index l.zones)) → HasLeads l.config (IsInputTarget l.config zone) (input_start ++ zone.name) l.chains)
