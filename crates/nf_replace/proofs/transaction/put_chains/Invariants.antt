use Rattle.std.proofs.Common.{◌≡◌, ◌++◌, map, take}
use Rattle.nf_rules.specs.declared.command.Command.TheVariants as command
use Rattle.nf_replace.proofs.transaction.put_chains.Given as goal

abbrev pub invariant-loop-chain : goal.invariant-loop-chain
invariant-loop-chain l = l.commands ≡ l.initial.commands ++ map command.PutChain (take l.chain-index l.initial.chains)
