-- The list is its first item and the others.
use Rattle.std.proofs.Common.{ℕ, List, ◌++◌, ap, sym, ◌∙◌}
use Rattle.std.specs.String.{string_bytes}
use Rattle.std.proofs.lemmas.Result.{on_ok_weaker}
use Rattle.fw_told.specs.Lists.{zones_text}
use Rattle.fw_told.proofs.lists.push_zones.Goals as goal

pub returns-in-Some : goal.returns-in-Some
returns-in-Some c =
    on_ok_weaker c.push_zones_from.result
    (λ pushed. pushed ∙ ap (λ (text : List ℕ). string_bytes c.args.out.now ++ text) (sym (ap zones_text c.in-Some.ensures.cases.0)))
    c.push_zones_from.ensures
