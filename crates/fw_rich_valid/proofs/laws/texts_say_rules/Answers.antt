use Rattle.fw_rich_valid.proofs.Rules.{said_is_rich}
use Rattle.fw_rich_valid.proofs.laws.texts_say_rules.Goals as goal

pub returns : goal.returns
returns c = said_is_rich
