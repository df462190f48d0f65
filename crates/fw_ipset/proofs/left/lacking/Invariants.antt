-- The keys of the others so far were seen; then of the items so far those are left that are none of them.
use Rattle.std.proofs.Common.{take}
use Rattle.fw_ipset.proofs.Seen.{HasSeen}
use Rattle.fw_ipset.specs.Lacking.{IsLacking}
use Rattle.fw_ipset.proofs.left.lacking.Given as goal

abbrev pub invariant-loop-other : goal.invariant-loop-other
invariant-loop-other l = HasSeen l.seen (take l.other-index l.others)

abbrev pub invariant-loop-item : goal.invariant-loop-item
invariant-loop-item l = IsLacking l.others (take l.item-index l.items) l.left
