-- The signals so far are told.
use Rattle.std.proofs.Common.{◌≡◌, ◌++◌, take, string_bytes}
use Rattle.std.specs.List.{flat_map}
use Rattle.fw_told.specs.Told.{signal_line}
use Rattle.fw_firewall.proofs.firewall.push_signals.Given as goal

abbrev pub invariant-loop-signal : goal.invariant-loop-signal
invariant-loop-signal l = string_bytes l.out ≡ string_bytes l.fn.out ++ flat_map (signal_line l.client) (take l.signal-index l.untold)
