-- The signals of the items so far.
use Rattle.std.proofs.Common.{◌≡◌, ◌++◌, take, map}
use Rattle.fw_ipset_members.specs.Entries.{entry_signal}
use Rattle.fw_ipset_members.proofs.replace.push_signals.Given as goal

abbrev pub invariant-loop-item : goal.invariant-loop-item
invariant-loop-item l = l.signals ≡ l.fn.signals ++ map (entry_signal l.kind l.name) (take l.item-index l.items)
