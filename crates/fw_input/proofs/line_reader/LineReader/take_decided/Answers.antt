-- What the bytes ahead decide comes next, whatever follows them.
use Rattle.std.proofs.Common.{◌∙◌, sym, ap, refl, Some}
use Rattle.fw_input.proofs.DecisionLemmas.{decided-line, line-short, decided-ending, has_line}
use Rattle.fw_input.proofs.line_reader.LineReader.take_decided.Goals as goal

pub take_line-requires : goal.take_line-requires
take_line-requires c = has_line _ (sym c.decided.ensures ∙ (c.in-Some.is ∙ ap Some c.in-Line.is))

pub returns-in-Line-clause-step : goal.returns-in-Line-clause-step
returns-in-Line-clause-step c = λ more.
    let line = decided-line _ more (sym c.decided.ensures ∙ (c.in-Some.is ∙ ap Some c.in-Line.is)) in
    (rw (c.take_line.ensures.line, c.take_line.ensures.ahead) line, c.take_line.ensures.budget)

pub returns-in-Line-clause-short : goal.returns-in-Line-clause-short
returns-in-Line-clause-short c = λ _.
    rw (c.take_line.ensures.line, c.take_line.ensures.line_limit) (line-short _ (sym c.decided.ensures ∙ (c.in-Some.is ∙ ap Some c.in-Line.is)))

pub returns-in_default-answer : goal.returns-in_default-answer
returns-in_default-answer c =
    let decides = decided-ending _ c.in-Some.answer (sym c.decided.ensures ∙ c.in-Some.is) c.in_default-answer.not-Line in
    record {
      step = decides.1;
      answer = decides.0;
      short = λ line. absurd (c.in_default-answer.not-Line line);
      no_line = λ _. c.requires.line;
      line_limit = refl;
    }
