-- What was read is what the text says.
use Rattle.std.proofs.Common.{sym, ◌∙◌}
use Rattle.fw_addr.specs.Protocols.{proto}
use Rattle.fw_zone_members.proofs.Flagged.{was_found, was_none}
use Rattle.fw_zone_members.proofs.flags.plain_protocol.Goals as goal

pub returns-in-Ok : goal.returns-in-Ok
returns-in-Ok c = was_found (proto c.args.protocol.now) _ c.in-Ok.read (sym c.in-Ok.is ∙ c.read_proto.ensures)

pub returns-in-Err : goal.returns-in-Err
returns-in-Err c = was_none (proto c.args.protocol.now) _ _ (sym c.in-Err.is ∙ c.read_proto.ensures)
