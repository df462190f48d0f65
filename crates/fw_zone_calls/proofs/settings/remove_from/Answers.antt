-- What the settings are after the edit.
use Rattle.std.proofs.Common.{Result, sym, subst}
use Rattle.fw_zone_calls.proofs.Plain.{remove_edits}
use Rattle.fw_answer.specs.Refusals.{Edits}
use Rattle.fw_zone_calls.specs.Settings.{removed}
use Rattle.fw_answer.specs.declared.edits.EditError.{EditError}
use Rattle.fw_zone_calls.proofs.settings.remove_from.Goals as goal

pub returns : goal.returns
returns c =
    subst (λ (result : Result (Unit {0}) EditError). Edits c.args.rules.now c.remove.new.rules result (removed c.args.rules.now c.args.setting))
    (sym c.settled_remove.ensures)
    (remove_edits c.args.rules.now c.remove.new.rules c.args.setting c.whole.result c.remove.result c.whole.ensures
    c.remove.ensures.removed c.remove.ensures.absent c.remove.ensures.err)
