-- What the texts that are left make of the zone so far is what all of them make of the first one.
use Rattle.std.proofs.Common.{◌≡◌, ◌++◌, drop}
use Rattle.fw_dicts.specs.Bindings.{with_all}
use Rattle.fw_dicts.proofs.bindings.add_entries.Given as goal

abbrev pub invariant-loop-text : goal.invariant-loop-text
invariant-loop-text l =
    with_all l.ipsets (l.before ++ l.behind) l.kind l.fn.zone l.texts ≡ with_all l.ipsets (l.before ++ l.behind) l.kind l.zone (drop l.text-index l.texts)
