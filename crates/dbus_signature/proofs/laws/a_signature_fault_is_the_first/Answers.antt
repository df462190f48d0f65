use Rattle.dbus_signature.proofs.FaultLaws.{signature_fault}
use Rattle.dbus_signature.proofs.laws.a_signature_fault_is_the_first.Goals as goal

pub returns : goal.returns
returns c = signature_fault
