-- A front of the piece is written, and what is left shrinks.
use Rattle.std.proofs.Common.{length}
use Rattle.fw_base.proofs.PieceWritten.{Written}
use Rattle.fw_base.proofs.write_sink.write_and_flush.Given as goal

abbrev pub invariant-loop-rest : goal.invariant-loop-rest
invariant-loop-rest g l = Written l.fn.piece l.rest (g.W.Write.contents l.fn.writer) (g.W.Write.contents l.writer)

abbrev pub decreases-loop-rest : goal.decreases-loop-rest
decreases-loop-rest g l = length l.rest
