use Rattle.fw_addr.proofs.NetLemmas.{mask_is}
use Rattle.std.proofs.Common.{◌∙◌}
use Rattle.fw_addr.proofs.net.mask_u128.Goals as goal

pub returns : goal.returns
returns c = c.unwrap_or.ensures ∙ mask_is 128 c.args.low c.checked_shl.result c.requires c.checked_shl.ensures
