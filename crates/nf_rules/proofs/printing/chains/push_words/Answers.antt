-- The matches are the first and the others.
use Rattle.std.proofs.Common.{ℕ, List, ◌++◌, codes, string_bytes, ap, sym, ◌∙◌}
use Rattle.std.proofs.lemmas.Result.{on_ok_weaker}
use Rattle.nf_rules.proofs.Separators.{separated-both}
use Rattle.nf_rules.specs.Matches.{match_text}
use Rattle.nf_rules.specs.Statements.{statement_text}
use Rattle.nf_rules.proofs.printing.chains.push_words.Goals as goal

pub returns-in-Some : goal.returns-in-Some
returns-in-Some c =
    on_ok_weaker c.push_words_from.result
    (λ pushed. pushed ∙ ap (λ (text : List ℕ). string_bytes c.args.out.now ++ text)
    (sym (separated-both (codes " ") match_text statement_text c.args.matches.now c.in-Some.first.now c.in-Some.others.now c.args.statements.now c.in-Some.ensures.cases.0)))
    c.push_words_from.ensures
