use Rattle.dbus_msg.proofs.FieldLaws.{path_pushed}
use Rattle.dbus_msg.proofs.writing.push_path.Goals as goal

pub returns-in_ok-push_text-clause-ok : goal.returns-in_ok-push_text-clause-ok
returns-in_ok-push_text-clause-ok c =
    path_pushed c.args.origin c.args.code c.in-Some.path c.as_str.result.now c.args.path.now c.args.out.now.items _ _ c.in-Some.is c.as_str.ensures c.requires.origin c.in_ok-push_code.ensures.ok c.in_ok-push_text.ensures.ok
