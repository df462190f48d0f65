use Rattle.lower_hooks.proofs.Filter.{filter_stands}
use Rattle.lower_hooks.proofs.laws.hooks_decide.Goals as goal

pub returns : goal.returns
returns c = filter_stands c.packets_use_zones.ensures
