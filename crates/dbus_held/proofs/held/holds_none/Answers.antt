use Rattle.std.proofs.Common.{ℕ, List, length, sym, ap, ◌∙◌, eq-eqb, arith}
use Rattle.std.proofs.lemmas.Bool.{eqb-true}
use Rattle.dbus_held.proofs.HeldLaws.{none_held}
use Rattle.dbus_held.proofs.held.holds_none.Goals as goal

pub returns : goal.returns
returns c =
    let none = none_held c.args.endian c.args.signature.now c.args.shift c.args.bytes.now c.requires (λ i. omega (arith, c.type_inv.bytes i)) in
    let lent = ap length c.as_bytes.ensures.bytes in
    (λ is. none.0 (sym lent ∙ eqb-true _ _ (sym c.is_empty.ensures ∙ is)), λ is. c.is_empty.ensures ∙ eq-eqb _ _ (lent ∙ none.1 is))
