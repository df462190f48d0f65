use Rattle.dbus_auth.proofs.RunLaws.{at_most_nine, tenth_ends}
use Rattle.dbus_auth.proofs.laws.the_tenth_rejection_ends.Goals as goal

pub returns-clause-nine : goal.returns-clause-nine
returns-clause-nine c = at_most_nine

pub returns-clause-tenth : goal.returns-clause-tenth
returns-clause-tenth c = tenth_ends
