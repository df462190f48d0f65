use Rattle.fw_replay.proofs.Proposed.{settled_is}
use Rattle.fw_replay.proofs.laws.settled_as_proposed.Goals as goal

pub returns : goal.returns
returns c = settled_is
