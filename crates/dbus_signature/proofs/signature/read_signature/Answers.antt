use Rattle.dbus_signature.proofs.Whole.{signature_is, signature_again}
use Rattle.dbus_signature.proofs.signature.read_signature.Goals as goal

pub returns-in_err-kinds_of-clause-only : goal.returns-in_err-kinds_of-clause-only
returns-in_err-kinds_of-clause-only c = signature_again c.args.bytes.now

pub returns-in_err-letters-clause-only : goal.returns-in_err-letters-clause-only
returns-in_err-letters-clause-only c = signature_again c.args.bytes.now

pub invariant_of-result : goal.invariant_of-result
invariant_of-result c = rw c.in_ok-letters.ensures (signature_is c.args.bytes.now c.in_ok-kinds_of.field-0 c.in_ok-kinds_of.ensures)

pub returns-clause-valid : goal.returns-clause-valid
returns-clause-valid c = signature_is c.args.bytes.now c.in_ok-kinds_of.field-0 c.in_ok-kinds_of.ensures

pub returns-clause-only : goal.returns-clause-only
returns-clause-only c = signature_again c.args.bytes.now
