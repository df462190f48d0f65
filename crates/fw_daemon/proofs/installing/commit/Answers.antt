use Rattle.fw_daemon.proofs.installing.commit.Goals as goal

pub returns-clause-committed : goal.returns-clause-committed
returns-clause-committed g c = λ needed ready before none is. c.commit_staged.ensures.committed ready before is
