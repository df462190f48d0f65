-- What was found is the first of the entries of the zones from here on.
use Rattle.std.proofs.Common.{◌≡◌, drop}
use Rattle.std.specs.List.{flat_map}
use Rattle.std.specs.Option.{option_map}
use Rattle.fw_hits.specs.Bindings.{entries_for, entry_order, first_by}
use Rattle.fw_hits.specs.Founds.{entry_of}
use Rattle.fw_hits.proofs.interfaces.interface_zone.Given as goal

abbrev pub invariant-loop-place : goal.invariant-loop-place
invariant-loop-place l =
    option_map entry_of l.first ≡ first_by entry_order (flat_map (entries_for l.name) (drop l.place l.config.zones))
