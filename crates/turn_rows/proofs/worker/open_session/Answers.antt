use Rattle.std.proofs.Common.{ap, sym, ◌∙◌, inr, length}
use Rattle.turn_rows.proofs.Keeping.{commits_keep}
use Rattle.turn_rows.proofs.worker.open_session.Goals as goal

pub returns-then-add-clause-kept : goal.returns-then-add-clause-kept
returns-then-add-clause-kept g c = commits_keep _ _ _ _ c.take-journal.ensures.kept c.commit.ensures.turn c.commit.ensures.pass c.commit.ensures.place

pub returns-then-add-clause-session : goal.returns-then-add-clause-session
returns-then-add-clause-session g c = (c.commit.ensures.place _).1 (inr (c.len-session.ensures.count ∙ ap length (sym c.take-journal.ensures.held.seen)))
