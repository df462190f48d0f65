-- The longest path says whether all are short.
use Rattle.nf_sound.proofs.Paths.{longest_short}
use Rattle.nf_sound.proofs.links.is_short_from.Goals as goal

pub returns-clause-short : goal.returns-clause-short
returns-clause-short c = λ chain at.
    rw c.is_some.ensures
    (longest_short c.args.rules.now c.args.place chain c.links_from.result c.requires.by_name at (c.links_from.ensures.links chain at))
