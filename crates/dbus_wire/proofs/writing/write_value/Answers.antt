use Rattle.std.proofs.Common.{◌∙◌, ap, length}
use Rattle.std.proofs.lemmas.Result.{on_err_weaker}
use Rattle.dbus_wire.specs.Appending.{Keeps}
use Rattle.dbus_wire.proofs.KeepsLaws.{taken_back}
use Rattle.dbus_wire.proofs.writing.write_value.Goals as goal

pub returns-then-is_err-clause-err : goal.returns-then-is_err-clause-err
returns-then-is_err-clause-err c =
    on_err_weaker c.push_value-written.result
    (λ (keeps : Keeps c.args.out.now.items c.push_value-written.new.out.items). c.truncate.ensures.items ∙ taken_back c.args.out.now.items c.push_value-written.new.out.items (length c.as_slice-end.result.now) (ap length c.as_slice-end.ensures.value) keeps)
    c.push_value-written.ensures.err
