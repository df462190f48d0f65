-- The keys are the first and the others.
use Rattle.std.proofs.Common.{ℕ, List, ◌++◌, ap, sym, ◌∙◌}
use Rattle.std.specs.String.{string_bytes}
use Rattle.std.proofs.lemmas.Result.{on_ok_weaker}
use Rattle.fw_event_told.specs.Dicts.{entry_text}
use Rattle.fw_event_told.specs.Joined.{joined}
use Rattle.fw_words.specs.Keys.{texts}
use Rattle.fw_event_told.proofs.dicts.push_entries.Goals as goal

pub returns-in-Some : goal.returns-in-Some
returns-in-Some c =
    on_ok_weaker c.push_entries_from.result
    (λ pushed. pushed ∙ ap (λ (text : List ℕ). string_bytes c.args.out.now ++ text)
    (sym (ap (λ keys. joined (entry_text c.args.fields.now) (texts keys)) c.in-Some.ensures.cases.0)))
    c.push_entries_from.ensures
