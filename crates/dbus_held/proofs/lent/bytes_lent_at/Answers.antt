use Rattle.std.proofs.Common.{◌≡◌, Ok, drop}
use Rattle.std.proofs.lemmas.Result.{err_from_is_err_and}
use Rattle.dbus_wire.specs.declared.value.Packed.TheVariants as packed
use Rattle.dbus_wire.specs.declared.value.Value.TheVariants as value
use Rattle.dbus_held.proofs.LentLaws.{bytes_alone, part_fails, part_found}
use Rattle.dbus_held.proofs.lent.bytes_lent_at.Goals as goal

pub returns-in_err-found : goal.returns-in_err-found
returns-in_err-found c =
    let p = err_from_is_err_and c.from_residual.result c.from_residual.ensures.1 in
    rw (p.1, p.2) (part_fails c.in_err-found.field-0.0 _ _ _ (bytes_alone c.args.endian c.args.kind.now c.args.inner.now c.args.at (drop c.args.at c.args.bytes.now) c.requires.array c.requires.inner) (rw c.split_at.ensures.back at c.in_err-found.ensures))

pub returns : goal.returns
returns c =
    part_found _ _ (λ b. Ok (value.Packed (packed.Bytes b))) _ (bytes_alone c.args.endian c.args.kind.now c.args.inner.now c.args.at (drop c.args.at c.args.bytes.now) c.requires.array c.requires.inner) (rw c.split_at.ensures.back at c.in_ok-found.ensures)
