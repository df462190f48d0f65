-- A write goes on with the piece, and one that fails or takes nothing leaves a front of it.
use Rattle.std.proofs.lemmas.List.{take_rest}
use Rattle.fw_base.proofs.PieceWritten.{more_written, still_written, front_written}
use Rattle.fw_base.proofs.write_sink.write_and_flush.Goals as goal

pub loop-rest-preserved : goal.loop-rest-preserved
loop-rest-preserved g c = rw (take_rest c.loop-rest.rest.now c.in-Ok.count) (more_written _ _ _ _ _ _ c.loop-rest.invariant c.in-Ok.ensures.bytes)

pub returns-in_default : goal.returns-in_default
returns-in_default g c = front_written _ _ _ _ (still_written _ _ _ _ _ c.loop-rest.invariant c.in_default.ensures.bytes)

pub returns-then-count-eq0 : goal.returns-then-count-eq0
returns-then-count-eq0 g c = front_written _ _ _ _ (more_written _ _ _ _ _ _ c.loop-rest.invariant c.in-Ok.ensures.bytes)
