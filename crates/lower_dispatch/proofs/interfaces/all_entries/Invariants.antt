-- The entries of the zones so far.
use Rattle.std.proofs.Common.{◌≡◌, map, take}
use Rattle.std.specs.List.{flat_map}
use Rattle.lower_dispatch.specs.Forms.{zone_entries}
use Rattle.lower_dispatch.specs.Sorting.{entry_of}
use Rattle.lower_dispatch.proofs.interfaces.all_entries.Given as goal

abbrev pub invariant-loop-zone : goal.invariant-loop-zone
invariant-loop-zone l = map entry_of l.entries.items ≡ flat_map zone_entries (take l.zone-index l.zones)
