-- The list is its first part and the others.
use Rattle.std.proofs.Common.{ℕ, List, ◌++◌, ap, sym, ◌∙◌}
use Rattle.std.specs.String.{string_bytes}
use Rattle.std.proofs.lemmas.Result.{on_ok_weaker}
use Rattle.fw_event_told.specs.Joined.{joined}
use Rattle.fw_event_told.proofs.part.push_joined.Goals as goal

pub returns-in-Some : goal.returns-in-Some
returns-in-Some g c =
    on_ok_weaker c.push_first.result
    (λ pushed. pushed ∙ ap (λ (text : List ℕ). string_bytes c.args.out.now ++ text) (sym (ap (joined g.T.Part.text) c.in-Some.ensures.cases.0)))
    c.push_first.ensures
