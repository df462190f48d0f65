use Rattle.std.proofs.Common.{◌≡◌, ◌++◌, take}
use Rattle.fw_journal.proofs.telling.push_copies.Given as goal

abbrev pub invariant-loop-signal : goal.invariant-loop-signal
invariant-loop-signal l = l.out ≡ l.initial.out ++ take l.signal-index l.initial.signals
