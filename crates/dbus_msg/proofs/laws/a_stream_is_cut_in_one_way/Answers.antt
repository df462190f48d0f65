use Rattle.dbus_msg.proofs.StreamLaws.{never_both, one_way}
use Rattle.dbus_msg.proofs.laws.a_stream_is_cut_in_one_way.Goals as goal

pub returns-clause-one : goal.returns-clause-one
returns-clause-one c = one_way

pub returns-clause-never : goal.returns-clause-never
returns-clause-never c = never_both
