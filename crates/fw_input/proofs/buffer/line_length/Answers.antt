-- The first LF that memchr finds is where the line ends.
use Rattle.std.proofs.Common.{◌∙◌}
use Rattle.fw_input.proofs.LineLemmas.{first_byte-position}
use Rattle.fw_input.proofs.buffer.line_length.Goals as goal

pub returns : goal.returns
returns c = c.unwrap_or.ensures ∙ first_byte-position _ _ c.memchr.ensures
