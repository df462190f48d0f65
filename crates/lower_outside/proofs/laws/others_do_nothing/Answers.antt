use Rattle.lower_outside.proofs.Idle.{do_nothing}
use Rattle.lower_outside.proofs.laws.others_do_nothing.Goals as goal

pub returns : goal.returns
returns c = do_nothing
