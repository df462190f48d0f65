-- The steps are counted in a ledger of their own.
use Rattle.nf_chains.proofs.evaluation.eval_uncounted.Given as goal

abbrev pub ghosts-eval_from : goal.ghosts-eval_from
ghosts-eval_from a = record { name = a.blank.name; parts = a.blank.parts }
