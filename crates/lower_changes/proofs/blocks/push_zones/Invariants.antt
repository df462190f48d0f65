-- The chains of the zones so far came behind the others.
use Rattle.std.proofs.Common.{take}
use Rattle.std.specs.List.{flat_map}
use Rattle.fw_model.specs.declared.zone.Zone.{Zone}
use Rattle.fw_order.specs.Borrowed.{lent}
use Rattle.fw_valid.specs.Each.{Each}
use Rattle.fw_valid.specs.Valid.{AreWritten}
use Rattle.lower_changes.specs.Blocks.{Behind}
use Rattle.lower_changes.specs.Needed.{told_zone}
use Rattle.lower_changes.proofs.blocks.push_zones.Given as goal

abbrev pub invariant-loop-zone : goal.invariant-loop-zone
invariant-loop-zone l =
    Each (λ (zone : Zone). AreWritten zone.rules) (lent l.zones)
    → Behind l.config l.side (flat_map (told_zone l.side) (lent (take l.zone-index l.zones))) l.initial.chains l.chains
