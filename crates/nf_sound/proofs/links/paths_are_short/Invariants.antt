-- No path from the chains so far has more links than may be.
use Rattle.std.proofs.Common.{◌≡◌, ℕ, ◌<◌, Some, slice_get}
use Rattle.nf_rules.specs.declared.chain.Chain.{Chain}
use Rattle.nf_sound.specs.Links.{Knows}
use Rattle.nf_sound.specs.Sound.{IsShort}
use Rattle.nf_sound.proofs.links.paths_are_short.Given as goal

abbrev pub invariant-loop-place : goal.invariant-loop-place
invariant-loop-place l = record {
  knows : Knows l.rules l.known.items;
  short : (place : ℕ) (chain : Chain) → place < l.place → slice_get l.rules.chains place ≡ Some chain → IsShort l.rules chain.name;
}
