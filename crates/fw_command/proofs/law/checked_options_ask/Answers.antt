use Rattle.fw_command.proofs.Checked.{complete_ask}
use Rattle.fw_command.proofs.law.checked_options_ask.Goals as goal

pub returns : goal.returns
returns c = complete_ask
