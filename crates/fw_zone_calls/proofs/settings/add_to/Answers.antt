-- What the settings are after the edit.
use Rattle.std.proofs.Common.{Result, sym, subst}
use Rattle.fw_zone_calls.proofs.Plain.{add_edits}
use Rattle.fw_answer.specs.Refusals.{Edits}
use Rattle.fw_zone_calls.specs.Settings.{added}
use Rattle.fw_answer.specs.declared.edits.EditError.{EditError}
use Rattle.fw_zone_calls.proofs.settings.add_to.Goals as goal

pub returns : goal.returns
returns c =
    subst (λ (result : Result (Unit {0}) EditError). Edits c.args.rules.now c.add.new.rules result (added c.args.rules.now c.args.setting))
    (sym c.settled_add.ensures)
    (add_edits c.args.rules.now c.add.new.rules c.args.setting c.whole.result c.add.result c.whole.ensures
    c.add.ensures.added c.add.ensures.already c.add.ensures.err)
