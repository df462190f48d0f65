use Rattle.std.proofs.Common.{◌∙◌, ap, length}
use Rattle.std.proofs.lemmas.Result.{on_err_weaker, on_ok_weaker}
use Rattle.dbus_wire.specs.Appending.{Keeps}
use Rattle.dbus_wire.proofs.KeepsLaws.{taken_back}
use Rattle.dbus_msg.proofs.MessageRead.{message_behind}
use Rattle.dbus_msg.proofs.writing.write_message.Goals as goal

pub returns-then-is_err-clause-err : goal.returns-then-is_err-clause-err
returns-then-is_err-clause-err c =
    on_err_weaker c.push_message-pushed.result
    (λ (keeps : Keeps c.args.out.now.items c.push_message-pushed.new.out.items). c.truncate.ensures.items ∙ taken_back c.args.out.now.items c.push_message-pushed.new.out.items (length c.as_slice-end.result.now) (ap length c.as_slice-end.ensures.value) keeps)
    c.push_message-pushed.ensures.err

pub returns-else-is_err-clause-read : goal.returns-else-is_err-clause-read
returns-else-is_err-clause-read c =
    on_ok_weaker c.push_message-pushed.result (λ is. message_behind c.args.message.now c.args.out.now.items c.push_message-pushed.new.out.items c.requires is) c.push_message-pushed.ensures.ok
