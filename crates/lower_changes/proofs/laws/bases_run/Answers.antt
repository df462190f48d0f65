use Rattle.lower_changes.proofs.Running.{bases_run}
use Rattle.lower_changes.proofs.laws.bases_run.Goals as goal

pub returns : goal.returns
returns c = bases_run
