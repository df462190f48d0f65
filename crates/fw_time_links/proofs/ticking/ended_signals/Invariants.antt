-- The signals so far.
use Rattle.std.proofs.Common.{◌≡◌, take, map}
use Rattle.fw_time_links.specs.Ticking.{ended_signal}
use Rattle.fw_time_links.proofs.ticking.ended_signals.Given as goal

abbrev pub invariant-loop-timed : goal.invariant-loop-timed
invariant-loop-timed l = l.signals ≡ map ended_signal (take l.timed-index l.timers)
