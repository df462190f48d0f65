use Rattle.std.proofs.Common.{◌∙◌, ap, List, length}
use Rattle.fw_calls.specs.Weight.{weight}
use Rattle.fw_calls.specs.declared.event.Entry.{Entry}
use Rattle.fw_journal.specs.Journal.{opened}
use Rattle.fw_journal.proofs.Behind.{still_kept}
use Rattle.fw_journal.proofs.journal.Journal.push.Goals as goal

pub invariant_of-self : goal.invariant_of-self
invariant_of-self c =
    still_kept _ _ _ _ _ _ c.args.entry c.args.signals _ _
    c.self.invariant.0 c.self.invariant.1 c.self.invariant.2 (c.weight.ensures ∙ ap (weight c.args.entry.event) c.as_slice-2.ensures) c.push_reserved.ensures.items c.push_reserved-2.ensures.items (c.follow.ensures.sessions ∙ ap (λ (entries : List Entry). opened (length entries) c.args.entry.event c.self.inside.open.items) c.as_slice.ensures.value)
