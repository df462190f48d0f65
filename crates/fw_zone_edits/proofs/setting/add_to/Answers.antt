-- What the zone is after the edit.
use Rattle.std.proofs.Common.{◌≡◌, Result, OnErr, sym, subst}
use Rattle.fw_act.specs.Acts.{Edits}
use Rattle.fw_act.specs.declared.edit.EditError.{EditError}
use Rattle.fw_zone_edits.proofs.Plain.{add_edits, add_kept, rules_kept}
use Rattle.fw_zone_edits.specs.Settings.{added}
use Rattle.fw_zone_edits.proofs.setting.add_to.Goals as goal

pub returns-clause-edits : goal.returns-clause-edits
returns-clause-edits c =
    subst (λ (result : Result (Unit {0}) EditError). Edits c.args.zone.now (record c.args.zone.now { rules = c.add.new.rules }) result (added c.args.zone.now c.args.setting))
    (sym c.settled_add.ensures)
    (add_edits c.args.zone.now c.add.new.rules c.args.setting c.add.result c.add.ensures.added c.add.ensures.already c.add.ensures.err)

pub returns-clause-err : goal.returns-clause-err
returns-clause-err c =
    subst (λ (result : Result (Unit {0}) EditError). OnErr result (record c.args.zone.now { rules = c.add.new.rules } ≡ c.args.zone.now)) (sym c.settled_add.ensures)
    (add_kept (record c.args.zone.now { rules = c.add.new.rules } ≡ c.args.zone.now) c.add.result (rules_kept c.args.zone.now c.add.new.rules c.add.result c.add.ensures.err))
