-- The entries so far were added.
use Rattle.std.proofs.Common.{◌≡◌, ◌++◌, map, take}
use Rattle.lower_dispatch.specs.Sorting.{entry_of}
use Rattle.lower_dispatch.proofs.interfaces.push_entries.Given as goal

abbrev pub invariant-loop-iface : goal.invariant-loop-iface
invariant-loop-iface l =
    map entry_of l.entries.items ≡ map entry_of l.fn.entries.items ++ map (λ text. record { zone = l.zone; text = text }) (take l.iface-index l.zone.interfaces)
