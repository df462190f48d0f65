use Rattle.fw_addr.proofs.MaskLaws.{mask_back}
use Rattle.fw_addr.proofs.laws.masks_are_read.Goals as goal

pub returns : goal.returns
returns c = mask_back
