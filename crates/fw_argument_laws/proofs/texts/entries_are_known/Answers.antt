use Rattle.fw_argument_laws.proofs.Reading.{word_read}
use Rattle.fw_argument_laws.proofs.texts.entries_are_known.Goals as goal

pub returns : goal.returns
returns c = word_read
