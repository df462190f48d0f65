-- The rules of the entries so far were added.
use Rattle.std.proofs.Common.{◌≡◌, ◌++◌, map, take}
use Rattle.lower_dispatch.specs.Forms.{entry_rule}
use Rattle.lower_dispatch.specs.Sorting.{entry_of}
use Rattle.lower_dispatch.proofs.interfaces.push_each.Given as goal

abbrev pub invariant-loop-entry : goal.invariant-loop-entry
invariant-loop-entry l =
    l.rules ≡ l.fn.rules ++ map (entry_rule l.direction l.start) (map entry_of (take l.entry-index l.entries))
