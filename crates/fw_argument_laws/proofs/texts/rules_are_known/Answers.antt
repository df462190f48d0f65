use Rattle.fw_argument_laws.proofs.RichRules.{rule_known}
use Rattle.fw_argument_laws.proofs.texts.rules_are_known.Goals as goal

pub returns : goal.returns
returns c = rule_known
