-- What is left, done after what was done, is the whole.
use Rattle.std.proofs.Common.{◌≡◌, drop}
use Rattle.nf_kernel.specs.Transactions.{apply}
use Rattle.nf_sound.specs.Names.{AreByName}
use Rattle.nf_kernel.proofs.apply.applied.Given as goal

abbrev pub invariant-loop-command : goal.invariant-loop-command
invariant-loop-command l = AreByName l.after × (apply (drop l.command-index l.commands) l.after ≡ apply l.commands l.rules)
