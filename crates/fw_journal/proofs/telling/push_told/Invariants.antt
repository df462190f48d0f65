use Rattle.std.proofs.Common.{◌≡◌, ◌++◌, drop}
use Rattle.fw_journal.specs.Journal.{joined}
use Rattle.fw_journal.proofs.telling.push_told.Given as goal

abbrev pub invariant-loop-signals : goal.invariant-loop-signals
invariant-loop-signals l = l.out ++ joined (drop l.signals-index l.initial.told) ≡ l.initial.out ++ joined l.initial.told
