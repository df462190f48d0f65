use Rattle.std.proofs.Common.{◌∙◌, ap, not}
use Rattle.std.specs.List.{position_or_len}
use Rattle.fw_rich.specs.Tokens.{is_gap}
use Rattle.fw_rich.proofs.Ascii.{boundary_behind_gap}
use Rattle.fw_rich.proofs.bytes.behind_gap.Goals as goal

pub range_from-requires : goal.range_from-requires
range_from-requires c = boundary_behind_gap c.args.text.now c.gap_length.result c.utf8.text (c.gap_length.ensures ∙ ap (position_or_len (λ byte. not (is_gap byte))) c.as_bytes.ensures.value)
