use Rattle.dbus_msg.proofs.BodyLaws.{body_whole}
use Rattle.dbus_msg.proofs.reading.body_in.Goals as goal

pub returns-in-Ok : goal.returns-in-Ok
returns-in-Ok c =
    rw c.held.ensures (body_whole c.args.endian c.args.signature.now c.in-Some.signature c.args.start c.args.bytes.now c.in-Ok.held c.in-Ok.end c.in-Some.is c.as_bytes.ensures.valid c.if-end-bytes.true c.in-Ok.ensures.exact)
