-- The steps are counted in a ledger of their own.
use Rattle.nf_chains.proofs.evaluation.eval_verdict.Given as goal

abbrev pub ghosts-verdict_from : goal.ghosts-verdict_from
ghosts-verdict_from a = record { name = a.blank.name; parts = a.blank.parts }
