use Rattle.std.proofs.Common.{◌≡◌, ◌++◌, map, take}
use Rattle.nf_rules.specs.declared.command.Command.TheVariants as command
use Rattle.nf_replace.proofs.transaction.put_sets.Given as goal

abbrev pub invariant-loop-set : goal.invariant-loop-set
invariant-loop-set l = l.commands ≡ l.initial.commands ++ map command.PutSet (take l.set-index l.initial.sets)
