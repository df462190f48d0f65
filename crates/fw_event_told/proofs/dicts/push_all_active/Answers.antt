-- The list is its first item and the others.
use Rattle.std.proofs.Common.{ℕ, List, ◌++◌, ap, sym, ◌∙◌}
use Rattle.std.specs.String.{string_bytes}
use Rattle.std.proofs.lemmas.Result.{on_ok_weaker}
use Rattle.fw_event_told.specs.Dicts.{active_text}
use Rattle.fw_event_told.specs.Joined.{joined}
use Rattle.fw_event_told.proofs.dicts.push_all_active.Goals as goal

pub returns-in-Some : goal.returns-in-Some
returns-in-Some c =
    on_ok_weaker c.push_active_from.result
    (λ pushed. pushed ∙ ap (λ (text : List ℕ). string_bytes c.args.out.now ++ text)
    (sym (ap (joined (active_text c.args.key.now c.args.other_key.now)) c.in-Some.ensures.cases.0)))
    c.push_active_from.ensures
