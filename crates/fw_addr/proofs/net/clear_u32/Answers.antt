use Rattle.std.proofs.Common.{◌∙◌, ap, bit_and}
use Rattle.std.proofs.lemmas.Nat.Bits.{and_high_mask}
use Rattle.fw_addr.proofs.net.clear_u32.Goals as goal

pub returns : goal.returns
returns c = ap (λ mask. bit_and c.args.number mask) c.mask_u32.ensures ∙ and_high_mask 32 c.args.low c.requires c.args.number c.ranges.number.fits
