-- The parts are the first and the others.
use Rattle.std.proofs.Common.{ℕ, List, ◌++◌, string_bytes, ap, sym, ◌∙◌}
use Rattle.std.proofs.lemmas.Result.{on_ok_weaker}
use Rattle.nf_rules.proofs.Separators.{braces-parts}
use Rattle.nf_rules.proofs.printing.part.push_braced.Goals as goal

pub returns-in-Some : goal.returns-in-Some
returns-in-Some g c =
    on_ok_weaker c.push_between_braces.result
    (λ pushed. pushed ∙ ap (λ (text : List ℕ). string_bytes c.args.out.now ++ text)
    (sym (braces-parts g.T.Part.text c.args.parts.now c.in-Some.first.now c.in-Some.others.now c.in-Some.ensures.cases.0)))
    c.push_between_braces.ensures
