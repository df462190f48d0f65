-- A refusal of the edit leaves the settings as they were.
use Rattle.std.proofs.Common.{◌≡◌, Result, sym, subst}
use Rattle.fw_act.specs.Acts.{Keeps}
use Rattle.fw_act.specs.declared.answer.Answer.{Answer}
use Rattle.fw_act.specs.declared.stop.Stop.{Stop}
use Rattle.fw_zone_members.proofs.Kept.{kept_after}
use Rattle.fw_zone_members.proofs.settings.add_setting.Goals as goal

pub returns-clause-kept : goal.returns-clause-kept
returns-clause-kept c =
    subst (λ (result : Result Answer Stop). Keeps c.args.settings.now c.add_found-added.new.settings result) (sym c.answer_after.ensures)
    (kept_after c.args.settings.now c.add_found-added.new.settings c.add_found-added.result c.in_ok-answer.answer c.add_found-added.ensures.kept)
