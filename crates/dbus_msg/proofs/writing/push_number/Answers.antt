use Rattle.dbus_msg.proofs.FieldLaws.{number_pushed}
use Rattle.dbus_msg.proofs.writing.push_number.Goals as goal

pub returns-in_ok-push_u32-clause-ok : goal.returns-in_ok-push_u32-clause-ok
returns-in_ok-push_u32-clause-ok c =
    number_pushed c.args.origin c.args.code c.in-Some.number c.args.number c.args.out.now.items _ _ c.in-Some.is c.requires c.in_ok-push_code.ensures.ok c.in_ok-push_u32.ensures.ok
