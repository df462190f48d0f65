-- Each zone so far has its chains.
use Rattle.std.proofs.Common.{◌≡◌, ◌++◌, take}
use Rattle.fw_model.specs.declared.zone.Zone.{Zone}
use Rattle.fw_order.specs.Borrowed.{lent}
use Rattle.fw_zone.specs.Lists.{IsIn}
use Rattle.lower_hooks.specs.Leads.{PairsLead}
use Rattle.lower_hooks.specs.Names.{forward_names, names_of}
use Rattle.lower_hooks.specs.Chains.{Grows, HasPairs}
use Rattle.lower_hooks.proofs.chains.push_forwards.Given as goal

abbrev pub invariant-loop-zone : goal.invariant-loop-zone
invariant-loop-zone l =
    Grows l.initial.chains l.chains
    × ((zone : Zone) → IsIn zone (lent (take l.zone-index l.zones)) → HasPairs l.config (lent l.others) zone l.chains)
    × (names_of l.chains ≡ names_of l.initial.chains ++ forward_names (lent l.others) (lent (take l.zone-index l.zones)))
    × ((zone : Zone) → IsIn zone (lent (take l.zone-index l.zones)) → PairsLead l.config (lent l.others) zone l.chains)
