use Rattle.std.proofs.Common.{◌∙◌, sym}
use Rattle.fw_addr.specs.Protocols.{proto}
use Rattle.fw_addr.specs.declared.error.AddrError.TheVariants.{InvalidProtocol}
use Rattle.fw_rich.proofs.Said.{found_by, none_by}
use Rattle.fw_rich.proofs.values.proto_in.Goals as goal

pub returns-in-Ok : goal.returns-in-Ok
returns-in-Ok c = found_by (proto c.args.text.now) c.in-Ok.found InvalidProtocol (sym c.in-Ok.is ∙ c.read_proto.ensures)

pub returns-in-Err : goal.returns-in-Err
returns-in-Err c = none_by (proto c.args.text.now) c.in-Err.field-0 InvalidProtocol (sym c.in-Err.is ∙ c.read_proto.ensures)
