use Rattle.std.proofs.Common.{◌≡◌, take}
use Rattle.fw_order.specs.Borrowed.{lent}
use Rattle.fw_timed.proofs.due.copied.Given as goal

-- copies of those that were looked at
abbrev pub invariant-loop-timed : goal.invariant-loop-timed
invariant-loop-timed l = l.copies ≡ lent (take l.timed-index l.timers)
