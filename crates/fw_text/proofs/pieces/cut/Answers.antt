use Rattle.std.proofs.Common.{◌+◌, arith, add-one, length}
use Rattle.std.proofs.lemmas.Slice.{between_to_end}
use Rattle.fw_text.proofs.PieceLemmas.{pieces_none, pieces_first}
use Rattle.fw_text.proofs.pieces.cut.Goals as goal

pub returns-in-Some-clause-pieces : goal.returns-in-Some-clause-pieces
returns-in-Some-clause-pieces c =
    let first = c.in-Some.ensures in
    let rest = between_to_end c.args.text.now (c.in-Some.place + 1) (length c.args.text.now) (omega arith) in
    rw (rest, add-one) (pieces_first c.args.separator c.args.text.now c.in-Some.place first.0.high (λ k below is. first.0.before k (omega arith) below is) first.1)

pub returns-in-None-clause-pieces : goal.returns-in-None-clause-pieces
returns-in-None-clause-pieces c = pieces_none c.args.separator c.args.text.now (λ k below is. c.in-None.ensures k (omega arith) below is)
