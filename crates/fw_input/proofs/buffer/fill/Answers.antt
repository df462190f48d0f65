-- The bytes that a read gave stand behind those that were moved to the front.
use Rattle.std.proofs.Common.{◌∙◌, arith, ℕ}
use Rattle.std.proofs.lemmas.List.{length-drop}
use Rattle.fw_input.proofs.FillLemmas.{fills-read}
use Rattle.fw_input.proofs.LineLemmas.{length-slice_range}
use Rattle.fw_input.proofs.buffer.fill.Goals as goal

pub returns-in-Ok-clause-fills : goal.returns-in-Ok-clause-fills
returns-in-Ok-clause-fills g c =
    let reads = c.in-Ok.ensures.reads in
    fills-read _ c.in-Ok.count _ _ _ _
    (length-slice_range _ _ _ (omega (arith, c.args.buffer.now.ok.0)))
    (c.in-Ok.ensures.kept ∙ c.make_room.ensures.moved)
    (omega (arith, reads.fits, length-drop {A = ℕ}, c.read_behind.new.buffer.ok.0))
    (omega arith)
    reads.bytes
