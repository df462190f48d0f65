use Rattle.std.proofs.Common.{◌++◌}
use Rattle.fw_script.proofs.Pieces.{writes-behind}
use Rattle.fw_script.proofs.status.write_three.Goals as goal

pub returns-clause-writes : goal.returns-clause-writes
returns-clause-writes g c = writes-behind c.write_two.result c.args.first.now (c.args.second.now ++ c.args.third.now) _ _ _ c.in_ok-write.field-0 c.in_ok-write.ensures.writes c.write_two.ensures.writes
