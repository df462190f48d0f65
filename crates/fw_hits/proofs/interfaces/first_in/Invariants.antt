-- What was found is the first of the zone's entries from here on and of those in the zones behind it.
use Rattle.std.proofs.Common.{◌≡◌, List, ◌++◌, drop, map}
use Rattle.std.specs.List.{filter}
use Rattle.std.specs.Option.{option_map}
use Rattle.fw_addr.specs.Interfaces.{matches}
use Rattle.fw_hits.specs.Bindings.{Entry, entry_order, first_by}
use Rattle.fw_hits.specs.Founds.{entry_of}
use Rattle.fw_hits.proofs.interfaces.first_in.Given as goal

abbrev pub invariant-loop-place : goal.invariant-loop-place
invariant-loop-place l =
    (others : List Entry)
    → option_map entry_of l.fn.behind ≡ first_by entry_order others
    → option_map entry_of l.first ≡ first_by entry_order (map (λ text. record { zone = l.zone; text = text }) (filter (λ text. matches text l.name) (drop l.place l.zone.interfaces)) ++ others)
