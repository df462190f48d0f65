-- Nothing is noted.
use Rattle.nf_sound.specs.Links.{KnowsNothing}
use Rattle.nf_sound.proofs.links.no_notes.Given as goal

abbrev pub invariant-loop : goal.invariant-loop
invariant-loop l = KnowsNothing l.notes.items
