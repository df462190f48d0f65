use Rattle.std.proofs.Common.{◌≡◌, ◌+◌, ◌%◌, ◌++◌, ℕ, List, length, drop, sym, subst, ◌∙◌, arith, Ok, refl}
use Rattle.dbus_signature.specs.declared.kind.Kind.{Kind}
use Rattle.dbus_signature.specs.Signatures.{all_kinds}
use Rattle.dbus_wire.proofs.RowLaws.{kinds_are}
use Rattle.dbus_wire.specs.Spelling.{spellings}
use Rattle.dbus_wire.specs.Values.{values_of}
use Rattle.dbus_held.specs.Holding.{held_values, IsHeld}
use Rattle.dbus_held.proofs.HeldLaws.{held_there, is_held}
use Rattle.dbus_held.proofs.held.read_held.Goals as goal

pub spelt_at-requires-clause-kinds : goal.spelt_at-requires-clause-kinds
spelt_at-requires-clause-kinds c =
    rw c.as_slice.ensures (kinds_are c.args.signature.now c.in_ok-kinds.kinds (rw c.as_bytes.ensures.bytes at c.in_ok-kinds.ensures) c.as_bytes.ensures.valid)

pub invariant_of-held : goal.invariant_of-held
invariant_of-held c =
    subst (λ (codes : List ℕ). IsHeld c.args.endian codes (c.args.offset % 8) c.in_ok-behind_zeros.field-0.items) (sym (c.in_ok-of_text.ensures ∙ c.as_bytes-2.ensures.bytes))
    (is_held c.args.endian c.args.signature.now c.in_ok-kinds.kinds c.args.offset (c.args.offset % 8) c.args.bytes.now c.in_ok-spelt.spelt.now c.in_ok-behind_zeros.field-0.items c.as_bytes.ensures.valid
    (rw c.as_bytes.ensures.bytes at c.in_ok-kinds.ensures) (λ i. omega (arith, c.type_inv.bytes i)) refl (rw c.as_slice.ensures at c.in_ok-spelt.ensures.exact) c.in_ok-behind_zeros.ensures).0

pub returns-clause-exact : goal.returns-clause-exact
returns-clause-exact c =
    subst (λ (codes : List ℕ). (ls : List Kind) → all_kinds c.args.signature.now ≡ Ok ls → values_of c.args.endian ls c.args.offset c.args.bytes.now ≡ Ok (held_values c.args.endian codes (c.args.offset % 8) c.in_ok-behind_zeros.field-0.items, c.args.offset + length c.in_ok-spelt.spelt.now)) (sym (c.in_ok-of_text.ensures ∙ c.as_bytes-2.ensures.bytes))
    (is_held c.args.endian c.args.signature.now c.in_ok-kinds.kinds c.args.offset (c.args.offset % 8) c.args.bytes.now c.in_ok-spelt.spelt.now c.in_ok-behind_zeros.field-0.items c.as_bytes.ensures.valid
    (rw c.as_bytes.ensures.bytes at c.in_ok-kinds.ensures) (λ i. omega (arith, c.type_inv.bytes i)) refl (rw c.as_slice.ensures at c.in_ok-spelt.ensures.exact) c.in_ok-behind_zeros.ensures).1

pub returns-clause-spelt : goal.returns-clause-spelt
returns-clause-spelt c =
    subst (λ (codes : List ℕ). drop c.args.offset c.args.bytes.now ≡ spellings c.args.endian (held_values c.args.endian codes (c.args.offset % 8) c.in_ok-behind_zeros.field-0.items) c.args.offset ++ drop (c.args.offset + length c.in_ok-spelt.spelt.now) c.args.bytes.now) (sym (c.in_ok-of_text.ensures ∙ c.as_bytes-2.ensures.bytes))
    (held_there c.args.endian c.args.signature.now c.in_ok-kinds.kinds c.args.offset (c.args.offset % 8) c.args.bytes.now c.in_ok-spelt.spelt.now c.in_ok-behind_zeros.field-0.items c.as_bytes.ensures.valid
    (rw c.as_bytes.ensures.bytes at c.in_ok-kinds.ensures) (λ i. omega (arith, c.type_inv.bytes i)) refl (rw c.as_slice.ensures at c.in_ok-spelt.ensures.exact) c.in_ok-behind_zeros.ensures)
