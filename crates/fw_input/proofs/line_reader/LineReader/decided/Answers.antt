use Rattle.std.proofs.Common.{◌∙◌, sym, arith}
use Rattle.fw_input.proofs.LineLemmas.{decision-choice, length-slice_range}
use Rattle.fw_input.proofs.line_reader.LineReader.decided.Goals as goal

pub returns : goal.returns
returns c =
    let placed = c.self.invariant in
    rw (← c.self.view_is) (c.choose.ensures ∙ sym (decision-choice _ _ _ placed.first (length-slice_range _ _ _ (omega (arith, c.self.inside.buffer.ok.0)))))
