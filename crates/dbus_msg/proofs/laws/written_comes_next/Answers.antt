use Rattle.dbus_msg.proofs.WrittenStream.{written_alone, written_bad, written_split}
use Rattle.dbus_msg.proofs.laws.written_comes_next.Goals as goal

pub returns-clause-split : goal.returns-clause-split
returns-clause-split c = written_split

pub returns-clause-bad : goal.returns-clause-bad
returns-clause-bad c = written_bad

pub returns-clause-alone : goal.returns-clause-alone
returns-clause-alone c = written_alone
