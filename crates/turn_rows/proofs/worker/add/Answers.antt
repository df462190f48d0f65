use Rattle.turn_rows.proofs.Keeping.{commits_keep}
use Rattle.turn_rows.proofs.worker.add.Goals as goal

pub returns-then-added-clause-kept : goal.returns-then-added-clause-kept
returns-then-added-clause-kept g c = commits_keep _ _ _ _ c.take-journal.ensures.kept c.commit.ensures.turn c.commit.ensures.pass c.commit.ensures.place
