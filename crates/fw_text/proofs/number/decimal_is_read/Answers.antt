use Rattle.fw_text.proofs.NumberLemmas.{number-decimal, decimal_from_number}
use Rattle.fw_text.proofs.number.decimal_is_read.Goals as goal

pub returns-clause-read : goal.returns-clause-read
returns-clause-read c = number-decimal

pub returns-clause-only : goal.returns-clause-only
returns-clause-only c = decimal_from_number
