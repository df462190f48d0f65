use Rattle.std.proofs.Common.{ℕ, ◌-◌, ◌∙◌, ap, eqb, sym}
use Rattle.fw_addr.proofs.NetLemmas.{cleared_tells, leading_tells}
use Rattle.fw_addr.proofs.net.begins_u128.Goals as goal

pub returns : goal.returns
returns c =
    let low = 128 - c.args.prefix in
    let value = ap (λ (n : ℕ). eqb n c.args.first) c.clear_u128.ensures ∙ cleared_tells c.args.number c.args.first low c.requires.cleared in
    let tells = leading_tells 128 c.args.prefix c.args.first c.args.number c.requires.fits c.ranges.first.fits c.ranges.number.fits in
    record { value = value; bits = (λ is. tells.0 (sym value ∙ is), λ shares. value ∙ tells.1 shares) }
