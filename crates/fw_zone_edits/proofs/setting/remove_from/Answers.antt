-- What the zone is after the edit.
use Rattle.std.proofs.Common.{◌≡◌, Result, OnErr, sym, subst}
use Rattle.fw_act.specs.Acts.{Edits}
use Rattle.fw_act.specs.declared.edit.EditError.{EditError}
use Rattle.fw_zone_edits.proofs.Plain.{remove_edits, remove_kept, rules_kept}
use Rattle.fw_zone_edits.specs.Settings.{removed}
use Rattle.fw_zone_edits.proofs.setting.remove_from.Goals as goal

pub returns-clause-edits : goal.returns-clause-edits
returns-clause-edits c =
    subst (λ (result : Result (Unit {0}) EditError). Edits c.args.zone.now (record c.args.zone.now { rules = c.remove.new.rules }) result (removed c.args.zone.now c.args.setting.now))
    (sym c.settled_remove.ensures)
    (remove_edits c.args.zone.now c.remove.new.rules c.args.setting.now c.remove.result c.remove.ensures.removed c.remove.ensures.absent c.remove.ensures.err)

pub returns-clause-err : goal.returns-clause-err
returns-clause-err c =
    subst (λ (result : Result (Unit {0}) EditError). OnErr result (record c.args.zone.now { rules = c.remove.new.rules } ≡ c.args.zone.now)) (sym c.settled_remove.ensures)
    (remove_kept (record c.args.zone.now { rules = c.remove.new.rules } ≡ c.args.zone.now) c.remove.result (rules_kept c.args.zone.now c.remove.new.rules c.remove.result c.remove.ensures.err))
