-- What was found is the next one among the chains from here on.
use Rattle.std.proofs.Common.{◌≡◌, drop, option_copied}
use Rattle.nf_chains.specs.Hooks.{next_at}
use Rattle.nf_chains.proofs.hook.next_at.Given as goal

abbrev pub invariant-loop-place : goal.invariant-loop-place
invariant-loop-place l = option_copied l.first ≡ next_at l.wanted (option_copied l.last) (drop l.place l.chains)
