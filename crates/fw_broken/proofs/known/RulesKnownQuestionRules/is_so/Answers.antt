-- What is known one by one is known.
use Rattle.fw_broken.proofs.Settings.{names_known}
use Rattle.fw_broken.proofs.known.RulesKnownQuestionRules.is_so.Goals as goal

pub returns : goal.returns
returns c = names_known c.args.config.now c.args.item.now _ c.are_known_one_by_one.ensures
