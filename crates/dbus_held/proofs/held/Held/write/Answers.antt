use Rattle.std.proofs.Common.{◌∙◌, arith}
use Rattle.std.proofs.lemmas.Result.{on_err_weaker}
use Rattle.dbus_wire.proofs.KeepsLaws.{taken_back}
use Rattle.dbus_held.proofs.held.Held.write.Goals as goal

pub returns-then-is_err-clause-err : goal.returns-then-is_err-clause-err
returns-then-is_err-clause-err c =
    on_err_weaker c.push-written.result
    (λ keeps. c.truncate.ensures.items ∙ taken_back c.args.out.now.items _ _ (omega (arith, c.as_slice-end.ensures)) keeps)
    c.push-written.ensures.err
