use Rattle.std.proofs.Common.{◌≡◌, Ok, Some, ℕ, Option, sym, ap, ◌∙◌, arith}
use Rattle.std.specs.Prelude.{slice_get}
use Rattle.std.proofs.lemmas.Result.{err_from_is_err_and}
use Rattle.dbus_signature.proofs.Sound.{ok_is}
use Rattle.dbus_wire.specs.declared.value.Value.{Value}
use Rattle.dbus_held.specs.Holding.{held_values}
use Rattle.dbus_held.specs.Lending.{lent_value}
use Rattle.dbus_held.proofs.LentLaws.{found_here, front_are, held_past, held_placed, never_fails, one_is}
use Rattle.dbus_held.proofs.lent.lent_held.Goals as goal

pub returns-in_default : goal.returns-in_default
returns-in_default c =
    ap (λ (found : Option Value). Ok found) (held_past c.args.endian c.args.signature.now c.in_ok-kinds.kinds c.args.place c.args.shift c.args.bytes.now c.requires (rw c.as_bytes.ensures.bytes at c.in_ok-kinds.ensures) (sym c.in_default.ensures.value))

pub offset_behind-requires-clause-kinds : goal.offset_behind-requires-clause-kinds
offset_behind-requires-clause-kinds c =
    rw (c.split_at.ensures.front, c.as_slice.ensures) (front_are c.args.signature.now c.in_ok-kinds.kinds c.args.place (rw c.as_bytes.ensures.bytes at c.in_ok-kinds.ensures) c.as_bytes.ensures.valid)

pub returns-in_err-at : goal.returns-in_err-at
returns-in_err-at c =
    let p = err_from_is_err_and c.from_residual-in_err-at.result c.from_residual-in_err-at.ensures.1 in
    let there = held_placed c.args.endian c.args.signature.now c.in_ok-kinds.kinds c.args.place c.in-Some.kind.now c.args.shift c.args.bytes.now c.requires (λ i. omega (arith, c.type_inv.bytes i)) (rw c.as_bytes.ensures.bytes at c.in_ok-kinds.ensures) (sym c.in-Some.ensures.value) in
    rw (p.1, p.2) (never_fails c.in_err-at.field-0.0 _ there.next _ there.before (rw (c.split_at.ensures.front, c.as_slice.ensures) at c.in_err-at.ensures))

pub lent_at-requires-clause-kind : goal.lent_at-requires-clause-kind
lent_at-requires-clause-kind c =
    one_is c.args.signature.now c.in_ok-kinds.kinds c.args.place c.in-Some.kind.now (rw c.as_bytes.ensures.bytes at c.in_ok-kinds.ensures) c.as_bytes.ensures.valid (sym c.in-Some.ensures.value)

pub lent_at-requires-clause-within : goal.lent_at-requires-clause-within
lent_at-requires-clause-within c =
    let there = held_placed c.args.endian c.args.signature.now c.in_ok-kinds.kinds c.args.place c.in-Some.kind.now c.args.shift c.args.bytes.now c.requires (λ i. omega (arith, c.type_inv.bytes i)) (rw c.as_bytes.ensures.bytes at c.in_ok-kinds.ensures) (sym c.in-Some.ensures.value) in
    (found_here c.args.endian c.args.signature.now c.in_ok-kinds.kinds c.args.place c.in-Some.kind.now c.args.shift c.in_ok-at.at c.args.bytes.now there (rw (c.split_at.ensures.front, c.as_slice.ensures) at c.in_ok-at.ensures)).within

pub returns-in_err-lent_at : goal.returns-in_err-lent_at
returns-in_err-lent_at c =
    let p = err_from_is_err_and c.from_residual-in_err-lent_at.result c.from_residual-in_err-lent_at.ensures.1 in
    let there = held_placed c.args.endian c.args.signature.now c.in_ok-kinds.kinds c.args.place c.in-Some.kind.now c.args.shift c.args.bytes.now c.requires (λ i. omega (arith, c.type_inv.bytes i)) (rw c.as_bytes.ensures.bytes at c.in_ok-kinds.ensures) (sym c.in-Some.ensures.value) in
    let here = found_here c.args.endian c.args.signature.now c.in_ok-kinds.kinds c.args.place c.in-Some.kind.now c.args.shift c.in_ok-at.at c.args.bytes.now there (rw (c.split_at.ensures.front, c.as_slice.ensures) at c.in_ok-at.ensures) in
    rw (p.1, p.2) (never_fails c.in_err-lent_at.field-0.0 _ here.value _ here.alone c.in_err-lent_at.ensures)

pub returns : goal.returns
returns c =
    let there = held_placed c.args.endian c.args.signature.now c.in_ok-kinds.kinds c.args.place c.in-Some.kind.now c.args.shift c.args.bytes.now c.requires (λ i. omega (arith, c.type_inv.bytes i)) (rw c.as_bytes.ensures.bytes at c.in_ok-kinds.ensures) (sym c.in-Some.ensures.value) in
    let here = found_here c.args.endian c.args.signature.now c.in_ok-kinds.kinds c.args.place c.in-Some.kind.now c.args.shift c.in_ok-at.at c.args.bytes.now there (rw (c.split_at.ensures.front, c.as_slice.ensures) at c.in_ok-at.ensures) in
    ap (λ (found : Option Value). Ok found) (here.is ∙ ap (λ (v : Value). Some v) (ok_is here.value (lent_value c.in_ok-lent_at.field-0) (sym here.alone ∙ c.in_ok-lent_at.ensures)))
