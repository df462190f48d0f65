-- The signals so far are there.
use Rattle.std.proofs.Common.{◌≡◌, ◌++◌}
use Rattle.fw_firewall.proofs.firewall.add_all.Given as goal

abbrev pub invariant-loop-signal : goal.invariant-loop-signal
invariant-loop-signal l = l.signals ≡ l.fn.signals ++ l.yielded
