use Rattle.std.proofs.Common.{◌∙◌, ap}
use Rattle.std.specs.List.{position_or_len}
use Rattle.fw_rich.specs.Tokens.{ends_key}
use Rattle.fw_rich.proofs.Ascii.{key_boundary}
use Rattle.fw_rich.proofs.bytes.split_key.Goals as goal

pub split_at-requires : goal.split_at-requires
split_at-requires c = key_boundary c.args.text.now c.key_length.result (c.key_length.ensures ∙ ap (position_or_len ends_key) c.as_bytes.ensures.value)
