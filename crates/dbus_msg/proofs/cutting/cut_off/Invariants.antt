use Rattle.std.proofs.Common.{length}
use Rattle.dbus_msg.proofs.CutLaws.{CutOff}
use Rattle.dbus_msg.proofs.cutting.cut_off.Given as goal

abbrev pub invariant-loop-message : goal.invariant-loop-message
invariant-loop-message l = CutOff l.bytes l.messages l.rest

abbrev pub decreases-loop-message : goal.decreases-loop-message
decreases-loop-message l = length l.rest
