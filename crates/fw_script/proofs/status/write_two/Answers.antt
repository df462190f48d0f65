use Rattle.fw_script.proofs.Pieces.{writes-behind}
use Rattle.fw_script.proofs.status.write_two.Goals as goal

pub returns-clause-writes : goal.returns-clause-writes
returns-clause-writes g c = writes-behind c.write-2.result c.args.first.now c.args.second.now _ _ _ c.in_ok-write.field-0 c.in_ok-write.ensures.writes c.write-2.ensures.writes
