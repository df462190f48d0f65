use Rattle.dbus_wire.proofs.StringLaws.{codes_signature}
use Rattle.dbus_held.proofs.strings.signature_at.Goals as goal

pub returns-clause-valid : goal.returns-clause-valid
returns-clause-valid c = codes_signature _ _ c.in_ok-codes.codes.rest.now c.in_ok-kinds_at.field-0 c.in_ok-kinds_at.ensures c.in_ok-codes.ensures.short
