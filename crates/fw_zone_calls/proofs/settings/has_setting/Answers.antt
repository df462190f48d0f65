-- Whether the setting is there, by its test.
use Rattle.std.proofs.Common.{IsTrue, ◌↔◌, subst}
use Rattle.fw_model.specs.declared.setting.Setting.{Setting}
use Rattle.fw_zone.specs.Settings.{Has}
use Rattle.fw_zone_calls.proofs.Plain.{has_is}
use Rattle.fw_zone_calls.proofs.settings.has_setting.Goals as goal

pub returns : goal.returns
returns c =
    has_is c.args.rules.now c.args.setting c.has.result
    (subst (λ (setting : Setting). IsTrue c.has.result ↔ Has c.args.rules.now setting) c.whole.ensures c.has.ensures)
