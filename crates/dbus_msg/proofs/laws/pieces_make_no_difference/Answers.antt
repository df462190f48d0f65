use Rattle.dbus_msg.proofs.StreamLaws.{bad_more, split_more}
use Rattle.dbus_msg.proofs.laws.pieces_make_no_difference.Goals as goal

pub returns-clause-split : goal.returns-clause-split
returns-clause-split c = split_more

pub returns-clause-bad : goal.returns-clause-bad
returns-clause-bad c = bad_more
