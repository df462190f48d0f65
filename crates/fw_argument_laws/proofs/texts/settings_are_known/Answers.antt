use Rattle.fw_argument_laws.proofs.Reading.{words_read}
use Rattle.fw_argument_laws.proofs.texts.settings_are_known.Goals as goal

pub returns : goal.returns
returns c = words_read
