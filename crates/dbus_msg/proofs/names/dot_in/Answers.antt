use Rattle.std.proofs.Common.{◌∙◌}
use Rattle.dbus_msg.proofs.NameLaws.{first_dot}
use Rattle.dbus_msg.proofs.names.dot_in.Goals as goal

pub returns-clause-place : goal.returns-clause-place
returns-clause-place c = c.unwrap_or.ensures ∙ first_dot _ _ c.memchr.ensures
