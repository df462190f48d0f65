use Rattle.std.proofs.Common.{◌∙◌, ap}
use Rattle.std.specs.List.{position_or_len}
use Rattle.fw_rich.specs.Tokens.{is_gap}
use Rattle.fw_rich.proofs.Ascii.{gap_boundary}
use Rattle.fw_rich.proofs.bytes.split_bare.Goals as goal

pub split_at-requires : goal.split_at-requires
split_at-requires c = gap_boundary c.args.text.now c.bare_length.result (c.bare_length.ensures ∙ ap (position_or_len is_gap) c.as_bytes.ensures.value)
