use Rattle.std.proofs.Common.{Ok}
use Rattle.std.proofs.lemmas.Result.{err_from_is_err_and}
use Rattle.dbus_held.proofs.LentLaws.{part_fails, part_found}
use Rattle.dbus_msg.specs.Known.{another}
use Rattle.dbus_msg.proofs.FieldReadingLaws.{other_content}
use Rattle.dbus_msg.proofs.field_reading.other_at.Goals as goal

pub returns-in_err-after-clause-exact : goal.returns-in_err-after-clause-exact
returns-in_err-after-clause-exact c =
    let p = err_from_is_err_and c.from_residual.result c.from_residual.ensures.1 in
    rw (p.1, p.2) (part_fails c.in_err-after.field-0.0 _ _ _ (other_content c.args.endian c.args.kind.now c.args.from.at c.args.from.rest.now c.requires.other) c.in_err-after.ensures)

pub returns-clause-exact : goal.returns-clause-exact
returns-clause-exact c =
    part_found _ _ (λ x. Ok (another, x.1, x.2)) _ (other_content c.args.endian c.args.kind.now c.args.from.at c.args.from.rest.now c.requires.other) c.in_ok-after.ensures
