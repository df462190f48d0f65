use Rattle.std.proofs.Common.{◌∙◌, ap}
use Rattle.fw_journal.proofs.Behind.{nothing_behind}
use Rattle.fw_journal.proofs.journal.Journal.told_from.Goals as goal

pub returns-then-place-told-clause-signals : goal.returns-then-place-told-clause-signals
returns-then-place-told-clause-signals c =
    c.new-signals.ensures ∙ nothing_behind _ _ _ _ c.as_slice-told.ensures.value (ap (λ written. written.told) c.self.view_is) c.if-place-told.true
