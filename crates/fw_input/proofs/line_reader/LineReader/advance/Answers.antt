-- What the steps of an advance come to together.
use Rattle.std.proofs.Common.{◌∙◌, [], arith}
use Rattle.fw_input.proofs.StepLemmas.{advances-from, judges-from, last-limit, last-short, last-step-over, last-step, spends, still_decided}
use Rattle.fw_input.proofs.line_reader.LineReader.advance.Goals as goal

pub returns-in-Bytes-clause-step : goal.returns-in-Bytes-clause-step
returns-in-Bytes-clause-step g c =
    let reads = c.in-Bytes.ensures.reads in
    advances-from c.take_decided.result c.read_on.new.self c.args.self.now c.take_decided.new.self _ _
    (rw c.forget_line.ensures at reads.bytes)
    (rw c.forget_line.ensures at reads.budget)
    (rw c.forget_line.ensures at reads.line_limit)
    (λ rest _. c.take_decided.ensures.step rest)

pub returns-in-Bytes-clause-judged : goal.returns-in-Bytes-clause-judged
returns-in-Bytes-clause-judged g c =
    let limit = rw c.forget_line.ensures at c.in-Bytes.ensures.reads.line_limit in
    judges-from c.take_decided.result c.args.self.now c.take_decided.new.self _ _ (c.take_decided.ensures.line_limit ∙ limit) (returns-in-Bytes-clause-step g c)

pub returns-in-Bytes-clause-no_read : goal.returns-in-Bytes-clause-no_read
returns-in-Bytes-clause-no_read g c = λ decided.
    let kept = c.in-Bytes.ensures.no_read (still_decided _ _ c.forget_line.ensures decided) in
    (kept.1, kept.2)

pub returns-in-End-clause-step : goal.returns-in-End-clause-step
returns-in-End-clause-step g c =
    let reads = c.in-End.ensures.reads in
    advances-from c.take_last.result c.read_on.new.self c.args.self.now c.take_last.new.self _ _
    (rw c.forget_line.ensures at reads.bytes)
    (rw c.forget_line.ensures at reads.budget)
    (rw c.forget_line.ensures at reads.line_limit)
    (last-step-over c.take_last.result _ _ _ reads.goes_on c.take_last.ensures)

pub returns-in-End-clause-judged : goal.returns-in-End-clause-judged
returns-in-End-clause-judged g c =
    let limit = rw c.forget_line.ensures at c.in-End.ensures.reads.line_limit in
    judges-from c.take_last.result c.args.self.now c.take_last.new.self _ _ (last-limit c.take_last.result _ _ c.take_last.ensures ∙ limit) (returns-in-End-clause-step g c)

pub returns-in-End-clause-no_read : goal.returns-in-End-clause-no_read
returns-in-End-clause-no_read g c = λ decided.
    let kept = c.in-End.ensures.no_read (still_decided _ _ c.forget_line.ensures decided) in
    (kept.1, kept.2)

pub returns-in-Failed-clause-no_read : goal.returns-in-Failed-clause-no_read
returns-in-Failed-clause-no_read g c = λ decided.
    let kept = c.in-Failed.ensures.no_read (still_decided _ _ c.forget_line.ensures decided) in
    (kept.1, kept.2)

pub returns-in-Memory-clause-no_read : goal.returns-in-Memory-clause-no_read
returns-in-Memory-clause-no_read g c = λ decided.
    let kept = c.in-Memory.ensures.no_read (still_decided _ _ c.forget_line.ensures decided) in
    (kept.1, kept.2)

pub returns-in-Bytes-clause-spends : goal.returns-in-Bytes-clause-spends
returns-in-Bytes-clause-spends g c = λ is.
    let budget = rw c.forget_line.ensures at c.in-Bytes.ensures.reads.budget in
    omega (arith, budget, spends c.take_decided.result _ _ _ _ (c.take_decided.ensures.step []) is)

pub returns-in-End-clause-spends : goal.returns-in-End-clause-spends
returns-in-End-clause-spends g c = λ is.
    let reads = c.in-End.ensures.reads in
    let budget = rw c.forget_line.ensures at reads.budget in
    omega (arith, budget, spends c.take_last.result _ _ _ _ (last-step c.take_last.result _ _ reads.goes_on.0 c.take_last.ensures) is)

pub returns-in-End-clause-short : goal.returns-in-End-clause-short
returns-in-End-clause-short g c =
    last-short c.take_last.result _ _ c.in-End.ensures.reads.goes_on.0 c.take_last.ensures
