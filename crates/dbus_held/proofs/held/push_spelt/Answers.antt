use Rattle.std.proofs.Common.{◌++◌, ◌-◌, ℕ, List, length, ap, ◌∙◌, arith}
use Rattle.dbus_held.proofs.HeldLaws.{spelt_held}
use Rattle.dbus_held.proofs.held.push_spelt.Goals as goal

pub returns-clause-ok : goal.returns-clause-ok
returns-clause-ok c =
    c.in_ok-extend_from_slice.ensures.items
    ∙ ap (λ (t : List ℕ). c.args.out.now.items ++ t) (c.split_at.ensures.back ∙ spelt_held c.args.endian c.args.signature.now c.args.shift (length c.args.out.now.items - c.args.origin) c.args.bytes.now c.requires.held (λ i. omega (arith, c.type_inv.bytes i)) c.requires.apart)
