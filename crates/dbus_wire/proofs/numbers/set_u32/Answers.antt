use Rattle.dbus_wire.proofs.PatchLaws.{patched}
use Rattle.dbus_wire.proofs.numbers.set_u32.Goals as goal

pub returns-clause-bytes : goal.returns-clause-bytes
returns-clause-bytes c = patched c.args.endian c.args.number c.u32_bytes-bytes.result c.args.out.now.items c.args.place c.u32_bytes-bytes.ensures
