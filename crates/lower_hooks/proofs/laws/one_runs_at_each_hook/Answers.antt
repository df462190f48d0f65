use Rattle.lower_hooks.proofs.Bases.{bases_run}
use Rattle.lower_hooks.proofs.laws.one_runs_at_each_hook.Goals as goal

pub returns : goal.returns
returns c = bases_run
