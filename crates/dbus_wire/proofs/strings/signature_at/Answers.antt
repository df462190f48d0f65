use Rattle.dbus_wire.proofs.StringLaws.{codes_signature}
use Rattle.dbus_wire.proofs.strings.signature_at.Goals as goal

pub closed_at-requires : goal.closed_at-requires
closed_at-requires c = codes_signature _ _ c.in_ok-codes.codes.rest.now c.in_ok-kinds_at.field-0 c.in_ok-kinds_at.ensures c.in_ok-codes.ensures.short
