use Rattle.std.proofs.Common.{◌≡◌, take}
use Rattle.std.specs.List.{filter}
use Rattle.fw_order.specs.Borrowed.{lent}
use Rattle.fw_timed.specs.Timers.{is_due}
use Rattle.fw_timed.proofs.due.due_timers.Given as goal

-- the due timers among those that were looked at
abbrev pub invariant-loop-timed : goal.invariant-loop-timed
invariant-loop-timed l = lent l.found.items ≡ filter (is_due l.now) (take l.timed-index l.timers)
